pub mod KeyLaws
pub mod BatchLaws
mod Worked
