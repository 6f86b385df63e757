pub mod Rooms
pub mod Phrases
pub mod Plain
