pub mod Refusing
pub mod Room
pub mod StoredBytes
pub mod StoredTables
pub mod Viewing
pub mod Weaving
