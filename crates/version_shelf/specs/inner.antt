pub mod Origins
pub mod Slots
