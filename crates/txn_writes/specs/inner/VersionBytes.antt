-- The bytes of the versions of a catalog.
use Rattle.std.specs.Prelude.{ℕ, List, sum_by, Option, Some, None}
use Rattle.row_model.specs.Change.{rows_side_bytes, rows_vector_bytes}
use Rattle.shadow_records.specs.PlacedTables.{plain_rows}
use Rattle.table_version.specs.Versions.{VersionState}

abbrev pub vectors_in : Option VersionState → ℕ
vectors_in None = 0
vectors_in (Some version) = rows_vector_bytes (plain_rows version.table.rows)

abbrev pub sides_in : Option VersionState → ℕ
sides_in None = 0
sides_in (Some version) = rows_side_bytes (plain_rows version.table.rows)

abbrev pub all_vectors : List (Option VersionState) → ℕ
all_vectors versions = sum_by vectors_in versions

abbrev pub all_sides : List (Option VersionState) → ℕ
all_sides versions = sum_by sides_in versions
