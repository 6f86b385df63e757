pub mod FieldLaws
pub mod PieceLaws
pub mod ChangeLaws
pub mod FittingLaws
pub mod GateLaws
pub mod SpellingLaws
