pub mod BuiltLaws
pub mod CatalogLaws
pub mod GroupLaws
pub mod NumberLaws
pub mod StageLaws
