pub mod ByteLaws
pub mod FoundLaws
pub mod InsertLaws
pub mod OneByOneLaws
pub mod RefusalLaws
pub mod SetLaws
pub mod TotalLaws
pub mod UpdateLaws
