pub mod Groups
pub mod KeySets
pub mod Steps
pub mod Touching
pub mod Turns
