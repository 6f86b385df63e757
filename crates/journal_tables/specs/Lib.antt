-- Making: what making batches on tables in memory answers.
pub mod Making
