pub mod AdvanceLaws
pub mod CountLaws
pub mod EndLaws
pub mod OverLaws
pub mod ReadTurns
pub mod RequestLaws
pub mod LoadLaws
pub mod StartLaws
