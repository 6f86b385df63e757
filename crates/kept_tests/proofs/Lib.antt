pub mod ColumnLaws
pub mod KeptLaws
