-- Entries: lists of entries by rising rowids, and what is found in them.
-- inner: what the representation is, and when.
pub mod Entries
pub mod inner
