-- Faults: literals that are not read. Fields: what a field stands for in a column. FieldTexts: the field that is written for a value.
pub mod Faults
pub mod Fields
pub mod FieldTexts
