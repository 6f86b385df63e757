mod BitLaws
mod ChangeLaws
mod ChunkLaws
mod ListLaws
mod OrderLaws
mod PlaceLaws
pub mod RuleLaws
mod SearchLaws
mod SpareLaws
