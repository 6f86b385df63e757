-- Cells: the values of metadata and auxiliary columns, and which of them a cell takes.
-- Fields: values as they are read.
-- RowSlots: what the slots of a chunk of rows hold, and what calls make of it.
-- inner: how the parts of a chunk give its slots.
pub mod Cells
pub mod Fields
pub mod RowSlots
pub mod inner
