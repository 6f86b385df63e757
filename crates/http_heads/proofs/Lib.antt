mod FillLaws
pub mod HeadLaws
