pub mod EntryLaws
pub mod FindLaws
pub mod IdLaws
pub mod KeyLaws
mod PairLaws
pub mod SearchLaws
