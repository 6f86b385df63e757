-- Edits: one item of a list changed.
-- inner: lists of lists as one list.
pub mod Edits
pub mod inner
