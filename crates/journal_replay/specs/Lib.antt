-- Opening: what opening a journal answers.
pub mod Opening
