-- Columns: the columns of the tables that are kept.
pub mod Columns
