-- Keyed: lists whose elements have keys. StoredRows: rows with their places, how they are found, and what one row more, less or changed makes of them.
-- Shown: what is read of a row.
-- Touches: where a store differs from the one that it was shared from.
-- inner: how chunks, places and entries give the rows, and what a change makes of one.
pub mod Keyed
pub mod Shown
pub mod StoredRows
pub mod Touches
pub mod inner
