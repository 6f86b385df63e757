pub mod Behind
pub mod Saying
