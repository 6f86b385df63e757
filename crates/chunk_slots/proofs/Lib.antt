mod BlockLaws
mod ChunkLaws
mod ColumnLaws
mod RowLaws
mod SlotLaws
mod ValueLaws
