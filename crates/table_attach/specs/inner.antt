pub mod Filling
pub mod Info
