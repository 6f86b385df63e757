-- Batches: the batches that the tests commit.
pub mod Batches
