-- Rows at their places, by rising rowids, with one more, one less, or one changed.
use Rattle.std.specs.Prelude.{ℕ, ◌-◌, ℤ, int_lt, not, if◌then◌else◌, List, [], ◌∷◌, filter, map, slice_set}
use Rattle.std.specs.Ordering.{int_eq}
use Rattle.vec_base.specs.declared.value.Value.{Value}
use Rattle.row_model.specs.Change.{larger}
use Rattle.shadow_records.specs.PlacedTables.{PlacedRow, PlacedTable}

-- before the first row of a greater rowid
abbrev pub with_placed : PlacedRow → List PlacedRow → List PlacedRow
with_placed new [] = new ∷ []
with_placed new (p ∷ ps) = if int_lt new.row.rowid p.row.rowid then new ∷ p ∷ ps else p ∷ with_placed new ps

-- the rows of all other rowids
abbrev pub without_placed : ℤ → List PlacedRow → List PlacedRow
without_placed rowid ps = filter (λ p. not (int_eq p.row.rowid rowid)) ps

-- the row with another value in the column at a place, from 0
abbrev pub with_value : ℕ → Value → PlacedRow → PlacedRow
with_value place value p = record p { row = record p.row { values = slice_set p.row.values place value } }

-- the row of the rowid is changed, and the others are as they were
abbrev pub changed_placed : ℤ → ℕ → Value → List PlacedRow → List PlacedRow
changed_placed rowid place value ps = map (λ p. if int_eq p.row.rowid rowid then with_value place value p else p) ps

-- the table with a new row; its top is the greatest rowid that it ever held
abbrev pub table_with : PlacedTable → PlacedRow → PlacedTable
table_with table new = record table { rows = with_placed new table.rows; top = larger table.top new.row.rowid }

abbrev pub table_without : PlacedTable → ℤ → PlacedTable
table_without table rowid = record table { rows = without_placed rowid table.rows }

-- the table where the row of a rowid has another value in the column of a number, from 1
abbrev pub table_changed : PlacedTable → ℤ → ℕ → Value → PlacedTable
table_changed table rowid column value = record table { rows = changed_placed rowid (column - 1) value table.rows }
