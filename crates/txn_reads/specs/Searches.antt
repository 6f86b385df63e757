-- What the search of a SELECT with a MATCH counts, told by the rows of its table.
use Rattle.std.specs.Prelude.{◌≡◌, ℕ, ◌+◌, ◌*◌, ◌-◌, ◌/◌, ◌≤◌, min, Bool, true, false, List, filter, length, Some}
use Rattle.std.specs.List.{list_all}
use Rattle.vec_base.specs.declared.limits.TheConstants.{LAST_COUNT}
use Rattle.vec_base.specs.declared.steps.Steps.{Steps}
use Rattle.knn_plan.specs.Levels.{meets_on}
use Rattle.nearest_query.specs.Searches.{is_read}
use Rattle.row_model.specs.Answer.{answer}
use Rattle.row_model.specs.Check.{is_nearest}
use Rattle.row_model.specs.ColumnNames.{item_places}
use Rattle.row_model.specs.Schemas.{is_partition}
use Rattle.row_model.specs.Step.{found}
use Rattle.row_model.specs.declared.request.Reply.{Reply}
use Rattle.row_model.specs.declared.request.Reply.TheVariants.{Cursor, Rows}
use Rattle.row_model.specs.declared.row.Named.{Named}
use Rattle.row_model.specs.declared.row.Row.{Row}
use Rattle.row_model.specs.declared.row.Table.{Table}
use Rattle.row_model.specs.declared.schema.Column.{Column}
use Rattle.row_model.specs.declared.state.Session.{Session}
use Rattle.row_model.specs.declared.state.State.{State}
use Rattle.row_model.specs.declared.statement.Constraint.{Constraint}
use Rattle.row_model.specs.declared.statement.Select.{Select}
use Rattle.table_query.specs.Items.{vector_count}

-- the partition values of the row meet the terms
abbrev pub meets_partition : List Column → List Constraint → Row → Bool
meets_partition columns terms row = list_all (meets_on is_partition columns row) terms

-- so many rows in chunks of a size, at least: a quotient that is rounded up
abbrev pub chunks_for : ℕ → ℕ → ℕ
chunks_for rows size = (rows + (size - 1)) / size

-- one piece for each worker, or for each chunk that is needed for the rows whose partition values meet the terms
abbrev pub least_pieces : Table → List Constraint → ℕ → ℕ
least_pieces table terms workers = min workers (chunks_for (length (filter (meets_partition table.schema.columns terms) table.rows)) table.schema.chunk_size)

-- one read of each row whose distance is asked for, and one of each vector of a row that is answered
abbrev pub reads_of : Table → Select → ℕ
reads_of table select =
    length (filter (is_read table.schema.columns select.where_terms) table.rows) + length (answer table select) * vector_count (item_places table.schema.columns select.items)

-- The reads rise by at most those, and the pieces by at least as many, or up to the last number.
pub record CountsRows (table : Table) (select : Select) (workers : ℕ) (before after : Steps) : Type 0 where
  pub reads : after.reads ≤ before.reads + reads_of table select
  pub pieces : min (before.pieces + least_pieces table select.where_terms workers) LAST_COUNT ≤ after.pieces

-- rows, or a cursor over them
abbrev pub answers_rows : Reply → Bool
answers_rows (Rows rows) = true
answers_rows (Cursor number) = true
answers_rows reply = false

-- a SELECT with a MATCH that is answered, over the table that the session sees
abbrev pub Counts : State → Session → Select → ℕ → Reply → Steps → Steps → Type 0
Counts state session select workers reply before after =
    answers_rows reply ≡ true → is_nearest select.where_terms ≡ true → (named : Named) → found select.table state session ≡ Some named → CountsRows named.table select workers before after
