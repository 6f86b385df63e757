-- ScanRows: the rows that a scan by a plan answers.
pub mod ScanRows
