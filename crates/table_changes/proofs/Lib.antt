-- Steps: what changes make of the bodies of keys, step by step. Turning: from all keys of a table to its records. KeySetLaws: steps over sets of keys.
-- LaidLaws: cells that are written anew. PatchLaws: patches of some cells, one after another. SameLaws: what has the same records in two tables, or none.
-- RecordLaws: one record that is written whole or taken away. NextLaws: the next chunk and row that may differ. GroupLaws: records of one kind.
-- UnitLaws: records of units in two tables. RowsLeft: how many rowids are behind one.
pub mod GroupLaws
pub mod KeySetLaws
pub mod LaidLaws
pub mod NextLaws
pub mod PatchLaws
pub mod RecordLaws
pub mod RowsLeft
pub mod SameLaws
pub mod Steps
pub mod Turning
pub mod UnitLaws
