-- The numbers of columns that get new values, and the bytes of texts and blobs that come and go.
use Rattle.std.specs.Prelude.{ℕ, ◌-◌, List, if◌then◌else◌, Option, Some, None, slice_index_or, sum_by}
use Rattle.vec_base.specs.declared.value.Value.TheVariants.{Null}
use Rattle.row_model.specs.ColumnNames.{place_of}
use Rattle.row_model.specs.Schemas.{is_vector}
use Rattle.row_model.specs.Values.{side_bytes}
use Rattle.row_model.specs.declared.row.Row.{Row}
use Rattle.row_model.specs.declared.schema.Column.{Column}
use Rattle.row_model.specs.declared.schema.Place.{Place}
use Rattle.row_model.specs.declared.schema.Place.TheVariants.{Declared}
use Rattle.row_model.specs.declared.statement.Assign.{Assign}
use Rattle.shadow_records.specs.PlacedTables.{PlacedRow}

-- the number of a declared column, and 0 for any other place
abbrev pub declared_number : Place → ℕ
declared_number (Declared number kind) = number
declared_number _ = 0

-- ---- bytes of texts and blobs

-- of a row's value in the column, where that is none of vectors
abbrev pub bytes_in : Place → Row → ℕ
bytes_in (Declared number kind) row = if is_vector kind then 0 else side_bytes (slice_index_or row.values (number - 1) Null)
bytes_in _ row = 0

-- of a row's values that new ones take the place of
abbrev pub bytes_gone : List Column → List Assign → Row → ℕ
bytes_gone columns sets row = sum_by (λ set. bytes_in (place_of columns set.column) row) sets

abbrev pub gone_at : List Column → List Assign → Option PlacedRow → ℕ
gone_at columns sets None = 0
gone_at columns sets (Some placed) = bytes_gone columns sets placed.row

abbrev pub bytes_come : List Assign → ℕ
bytes_come sets = sum_by (λ set. side_bytes set.value) sets
