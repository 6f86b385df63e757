pub mod Int8Reading
pub mod Stretches
