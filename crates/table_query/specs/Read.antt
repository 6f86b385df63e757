-- Where a value of a row is read.
use Rattle.std.specs.Prelude.{◌≡◌, List, Some, ⊤}
use Rattle.row_model.specs.declared.schema.Column.{Column}
use Rattle.row_model.specs.declared.schema.Place.{Place}
use Rattle.row_model.specs.declared.schema.Place.TheVariants.{Declared}
use Rattle.table_version.specs.Viewed.{kind_numbered}

-- a declared column is one of these, with its number and its kind
abbrev pub IsThere : List Column → Place → Type 0
IsThere columns (Declared number kind) = kind_numbered columns number ≡ Some kind
IsThere columns _ = ⊤
