pub mod MapLaws
pub mod RunLaws
pub mod StopLaws
