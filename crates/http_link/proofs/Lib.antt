mod LastLaws
pub mod RiseLaws
