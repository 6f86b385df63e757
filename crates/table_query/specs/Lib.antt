-- Items: the items of a row. Met: the rows that meet all terms, one after another. Read: where a value of a row is read. Said: the rowid that a
-- test is for.
pub mod Items
pub mod Met
pub mod Read
pub mod Said
