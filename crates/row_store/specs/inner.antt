pub mod Changes
pub mod Parts
pub mod Views
pub mod Widening
