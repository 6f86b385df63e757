-- SeenTables: the table of a name that a session sees. SeenSchemas: its schema. Searches: what a search counts. Advancing: a cursor that is passed
-- without a page. inner: a plan that a cursor may be opened for, a cursor that was passed, and what a search counts by chunks.
pub mod Advancing
pub mod Searches
pub mod SeenSchemas
pub mod SeenTables
pub mod inner
