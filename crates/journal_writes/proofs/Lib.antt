pub mod GateLaws
pub mod Steps
