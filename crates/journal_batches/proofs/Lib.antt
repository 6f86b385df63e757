pub mod BatchLaws
pub mod ShowingLaws
