-- The items of a row.
use Rattle.std.specs.Prelude.{ℕ, List, if◌then◌else◌}
use Rattle.std.specs.List.{count_by}
use Rattle.vec_base.specs.Counts.{raised}
use Rattle.vec_base.specs.declared.value.Value.{Value}
use Rattle.row_model.specs.Answer.{Near, items_of}
use Rattle.row_model.specs.ColumnNames.{is_of, item_places}
use Rattle.row_model.specs.Schemas.{is_vector}
use Rattle.row_model.specs.declared.row.Row.{Row}
use Rattle.row_model.specs.declared.schema.Column.{Column}
use Rattle.row_model.specs.declared.schema.Place.{Place}
use Rattle.row_model.specs.declared.statement.Items.{Items}
use Rattle.shadow_records.specs.PlacedTables.{PlacedRow}

-- a row with its distance
abbrev pub near_at : ℕ → Row → Near
near_at distance row = record { distance = distance; row = row }

-- the items of a SELECT
abbrev pub items_at : List Column → Items → ℕ → PlacedRow → List Value
items_at columns items distance placed = items_of (item_places columns items) (near_at distance placed.row)

-- ---- reads

-- an item that is a vector is one read
abbrev pub read_at : Place → ℕ → ℕ
read_at place reads = if is_of is_vector place then raised reads else reads

-- how many items are vectors
abbrev pub vector_count : List Place → ℕ
vector_count places = count_by (is_of is_vector) places
