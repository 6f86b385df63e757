pub mod Digits
pub mod Doubling
pub mod Fronts
