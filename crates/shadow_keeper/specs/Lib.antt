-- Keeping: what the calls of a keeper do, and what a stop leaves. Memory: what the keeper in memory holds, and what its calls answer.
-- inner: changes with their bodies, slots of records, and the order in which records are given.
pub mod Keeping
pub mod Memory
pub mod inner
