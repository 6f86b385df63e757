pub mod Building
pub mod Grouping
