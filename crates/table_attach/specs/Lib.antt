-- Attaching: the table that records are those of.
-- inner: how a table is filled from records, row by row, and compared with them.
pub mod Attaching
pub mod inner
