pub mod ChangeLaws
pub mod CursorLaws
pub mod ExchangeLaws
pub mod LookupLaws
pub mod MoveLaws
pub mod SessionLaws
pub mod SweepLaws
pub mod TurnLaws
