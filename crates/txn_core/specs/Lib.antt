-- Engines: the engine as contracts see it, and what one request does. Free: what takes no memory. Kept: what holds of an engine between two requests.
-- Counting: what a statement counts. Schemas: the schema of a table that a session sees. Loads: what the reading of records leaves of a keeper.
-- Starts: how an engine is opened. inner: what holds of the reply that a turn comes to, and the records of a keeper, one after another.
pub mod Counting
pub mod Engines
pub mod Free
pub mod Kept
pub mod Loads
pub mod Schemas
pub mod Starts
pub mod inner
