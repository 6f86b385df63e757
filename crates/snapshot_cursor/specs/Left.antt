-- The rows that are left of a cursor.
use Rattle.std.specs.Prelude.{List, [], ◌∷◌, map, take, drop, Option, Some, None}
use Rattle.vec_base.specs.declared.value.Value.{Value}
use Rattle.row_model.specs.declared.row.Row.{Row}
use Rattle.snapshot_cursor.specs.declared.cursor.Cursor.{Cursor}
use Rattle.snapshot_cursor.specs.declared.cursor.Cursor.TheVariants.{Rows, Scan}
use Rattle.snapshot_cursor.specs.declared.scan.ScanPlace.{ScanPlace}
use Rattle.snapshot_cursor.specs.Scanned.{rows_behind}

-- of a scan, over the rows of a source
abbrev pub scan_left : ScanPlace → List Row → List (List Value)
scan_left place rows = take place.left (map (λ row. row.values) (rows_behind place.after rows))

-- of a cursor, over the rows of a source
abbrev pub rows_left : Cursor → List Row → List (List Value)
rows_left (Rows kept passed) rows = drop passed kept
rows_left (Scan place) rows = scan_left place rows

abbrev pub first_of : List (List Value) → Option (List Value)
first_of [] = None
first_of (values ∷ rows) = Some values
