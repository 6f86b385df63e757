mod BoundLaws
pub mod CopyLaws
pub mod InsertLaws
pub mod NearLaws
pub mod PlaceLaws
pub mod RefusalLaws
pub mod ScanLaws
pub mod SessionLaws
pub mod StatementLaws
pub mod TableLaws
pub mod TextKeyLaws
pub mod TopLaws
pub mod TotalLaws
pub mod WriteLaws
