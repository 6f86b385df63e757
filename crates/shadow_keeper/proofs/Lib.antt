pub mod EditLaws
pub mod RecordLaws
pub mod SlotLaws
