pub mod CountLaws
pub mod OpeningLaws
pub mod PageLaws
pub mod ReadingLaws
pub mod SeenLaws
