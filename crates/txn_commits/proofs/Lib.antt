pub mod KeepLaws
pub mod SettleLaws
pub mod StandLaws
