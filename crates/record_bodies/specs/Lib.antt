-- Bodies: what the body of a record says. OneText: that a text is written for at most one schema. Partitions: the form of partition values.
-- ReadRows: what the records of a table say of a row.
-- inner: a row that is read column by column.
pub mod Bodies
pub mod OneText
pub mod Partitions
pub mod ReadRows
pub mod inner
