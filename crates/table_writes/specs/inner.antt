pub mod Capped
pub mod NewValues
pub mod OneByOne
pub mod SetColumns
pub mod TakenGroups
pub mod Updates
