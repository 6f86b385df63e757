-- Starting: what opening a journal answers. States: what a keeper holds and tells.
pub mod Starting
pub mod States
