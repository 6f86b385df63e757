-- Reads: how many vectors an answer reads.
-- inner: hits of rows, and rows of hits.
pub mod Reads
pub mod inner
