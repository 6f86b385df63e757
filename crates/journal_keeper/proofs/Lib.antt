pub mod LeftLaws
pub mod OpenLaws
