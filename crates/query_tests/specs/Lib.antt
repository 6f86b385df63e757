-- Columns: the columns of the tables that are searched.
pub mod Columns
