pub mod CellColumns
pub mod Held
pub mod Shown
