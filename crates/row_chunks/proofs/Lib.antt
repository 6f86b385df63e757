mod BytesLaws
mod CellLaws
mod ChunkLaws
mod ColumnLaws
mod FilterLaws
mod FitLaws
mod PutLaws
pub mod RowCells
mod SlotLaws
mod WholeLaws
mod WriteLaws
