pub mod OwnLaws
pub mod StepLaws
