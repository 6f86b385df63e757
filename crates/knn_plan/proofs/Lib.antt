pub mod ChangeLaws
pub mod LevelLaws
pub mod NumberLaws
pub mod OtherLaws
pub mod PlanLaws
pub mod RowidLaws
pub mod TargetLaws
pub mod TermLaws
