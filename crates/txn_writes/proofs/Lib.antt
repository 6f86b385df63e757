pub mod ByteLaws
pub mod WriteLaws
