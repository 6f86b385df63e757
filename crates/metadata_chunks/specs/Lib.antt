-- Columns: what filters keep, and truth values as numbers.
-- inner: filters up to a slot, and texts by their first bytes.
pub mod Columns
pub mod inner
