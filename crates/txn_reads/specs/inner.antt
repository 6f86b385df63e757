pub mod CursorPlans
pub mod Passing
pub mod TableSearches
