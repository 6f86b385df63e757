pub mod ColumnLaws
pub mod PlaceLaws
pub mod CellLaws
pub mod WidthLaws
pub mod UnitLaws
pub mod IdLaws
pub mod BodyLaws
pub mod ShortLaws
