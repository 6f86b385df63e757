pub mod NumberLaws
pub mod PlaceLaws
pub mod RecordLaws
pub mod SlotLaws
