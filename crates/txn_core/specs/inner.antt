pub mod CountedTurns
pub mod Reading
