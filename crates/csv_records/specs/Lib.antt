-- Records: the records of a text, and which of them are taken. Written: the text of records.
pub mod Records
pub mod Written
