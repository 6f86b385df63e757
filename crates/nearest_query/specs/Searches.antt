-- What a search finds, chunk by chunk, and what it answers.
use Rattle.std.specs.Prelude.{ℕ, Bool, false, ◌||◌, if◌then◌else◌, List, [], ◌∷◌, map, filter, Option, Some, None}
use Rattle.std.specs.List.{list_all}
use Rattle.row_model.specs.Answer.{Near, chosen, counted, target_of}
use Rattle.row_model.specs.ColumnNames.{is_distance, place_of}
use Rattle.row_model.specs.Schemas.{is_partition}
use Rattle.row_model.specs.Values.{meets}
use Rattle.row_model.specs.declared.row.Row.{Row}
use Rattle.row_model.specs.declared.schema.Column.{Column}
use Rattle.row_model.specs.declared.statement.Constraint.{Constraint}
use Rattle.row_model.specs.declared.statement.Select.{Select}
use Rattle.knn_plan.specs.Levels.{meets_on}
use Rattle.shadow_records.specs.PlacedTables.{PlacedRow, PlacedTable, first_in, plain_rows}
use Rattle.topk_merge.specs.declared.hit.Hit.{Hit}
use Rattle.nearest_query.specs.Gathered.{up_to}

-- ---- the answer

abbrev pub hit_of : Near → Hit
hit_of near = record { distance = near.distance; rowid = near.row.rowid }

-- the rows that a SELECT with a MATCH answers, as hits
abbrev pub nearest_hits : PlacedTable → Select → List Hit
nearest_hits table select =
    let columns = table.schema.columns in
    let target = target_of columns select.where_terms in
    map hit_of (chosen target columns select (counted columns select.where_terms target (plain_rows table.rows)))

-- ---- the rows whose vectors are read

-- the row meets the term, or that is on distance
abbrev pub meets_before : List Column → Row → Constraint → Bool
meets_before columns row term = is_distance (place_of columns term.column) || meets columns row term

-- the row meets all terms but those on distance, so that its distance is asked for
abbrev pub is_read : List Column → List Constraint → Row → Bool
is_read columns terms row = list_all (meets_before columns row) terms

abbrev pub read_rows : PlacedTable → List Constraint → List Row
read_rows table terms = filter (is_read table.schema.columns terms) (plain_rows table.rows)

-- ---- the chunks

-- what holds of a row that is there
abbrev pub on_row : (PlacedRow → Bool) → Option PlacedRow → Bool
on_row test None = false
on_row test (Some placed) = test placed

abbrev pub meets_all_on_partition : PlacedTable → List Constraint → PlacedRow → Bool
meets_all_on_partition table terms placed = list_all (meets_on is_partition table.schema.columns placed.row) terms

-- the chunk has rows, whose partition values meet the terms
abbrev pub is_wanted : PlacedTable → List Constraint → ℕ → Bool
is_wanted table terms chunk = on_row (meets_all_on_partition table terms) (first_in table.rows chunk)

abbrev pub one_if_wanted : PlacedTable → List Constraint → ℕ → List ℕ
one_if_wanted table terms chunk = if is_wanted table terms chunk then chunk ∷ [] else []

-- the chunks below n whose partition values meet the terms
abbrev pub wanted_below : PlacedTable → List Constraint → ℕ → List ℕ
wanted_below table terms n = up_to (one_if_wanted table terms) n

-- 2 ^ 32, above every chunk. It does not unfold by itself, as lists of that length are then compared.
unfoldable pub above_chunks : ℕ
above_chunks = 4294967296

abbrev pub wanted_chunks : PlacedTable → List Constraint → List ℕ
wanted_chunks table terms = wanted_below table terms above_chunks
