pub mod Cutting
pub mod LoopRuns
pub mod Progress
pub mod Puts
pub mod Sending
pub mod Tallies
