pub mod AnswerLaws
pub mod FindLaws
pub mod ItemLaws
pub mod PointLaws
pub mod ReadLaws
pub mod ScanLaws
