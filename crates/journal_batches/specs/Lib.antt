-- Places: where a journal goes on. Stopping: the tables up to a gate, and those that a stop leaves.
pub mod Places
pub mod Stopping
