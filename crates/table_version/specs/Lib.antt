-- Inserting: what a new row makes of a table, and what refuses it. Kept: what is kept of a row's values. PlacedRows: rows with one more or less.
-- Placing: a row that takes a named place.
-- Versions: the state of a table, and where it differs from the one that it was shared from.
-- Viewed: a row that is read column by column.
-- inner: how stored rows give the rows of a table.
pub mod Inserting
pub mod Kept
pub mod PlacedRows
pub mod Placing
pub mod Versions
pub mod Viewed
pub mod inner
