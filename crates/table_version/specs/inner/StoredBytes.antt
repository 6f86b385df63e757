-- The bytes of the texts and blobs, and of the vectors, of a stored row.
use Rattle.std.specs.Prelude.{ℕ, ◌+◌, List, length, slice_index_or, sum_by, Option, Some, None}
use Rattle.vec_base.specs.declared.value.Value.TheVariants.{Null}
use Rattle.row_model.specs.Values.{side_bytes}
use Rattle.row_store.specs.StoredRows.{StoredRow}

abbrev pub id_side : Option (List ℕ) → ℕ
id_side None = 0
id_side (Some text) = length text

abbrev pub stored_bytes : StoredRow → ℕ
stored_bytes row = id_side row.id + sum_by side_bytes row.partition + sum_by side_bytes row.cells

abbrev pub bytes_at : Option StoredRow → ℕ
bytes_at None = 0
bytes_at (Some row) = stored_bytes row

-- those of a cell
abbrev pub cell_bytes_at : ℕ → Option StoredRow → ℕ
cell_bytes_at index None = 0
cell_bytes_at index (Some row) = side_bytes (slice_index_or row.cells index Null)

-- the bytes of the vectors of a row
abbrev pub total_width : List ℕ → ℕ
total_width widths = sum_by (λ width. width) widths
