-- OneTable: catalogs with a table of one column.
pub mod OneTable
