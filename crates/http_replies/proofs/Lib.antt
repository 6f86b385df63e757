pub mod EscapeLaws
pub mod LengthLaws
