-- Rows by rising rowids, from a place on.
use Rattle.std.specs.Prelude.{ℤ, int_lt, Bool, true, List, filter, find, Option, Some, None}
use Rattle.std.specs.Option.{option_map}
use Rattle.std.specs.Ordering.{int_eq}
use Rattle.vec_base.specs.declared.value.Value.{Value}
use Rattle.row_model.specs.declared.row.Row.{Row}

-- the row stands behind the place
abbrev pub is_behind : Option ℤ → Row → Bool
is_behind None row = true
is_behind (Some after) row = int_lt after row.rowid

abbrev pub next_row : Option ℤ → List Row → Option Row
next_row after rows = find (is_behind after) rows

abbrev pub rows_behind : Option ℤ → List Row → List Row
rows_behind after rows = filter (is_behind after) rows

-- the values of the row of a rowid
abbrev pub values_of : ℤ → List Row → Option (List Value)
values_of rowid rows = option_map (λ row. row.values) (find (λ row. int_eq row.rowid rowid) rows)
