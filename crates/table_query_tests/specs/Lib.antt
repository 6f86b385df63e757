-- FourColumns: the columns of the tables that are tested.
pub mod FourColumns
