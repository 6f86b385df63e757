-- Groups of values that the checks of an INSERT take, and what refuses their rows.
use Rattle.std.specs.Prelude.{◌≡◌, ℕ, ℤ, pos, true, List, [], ◌∷◌, length, Option, Some, None, is_some}
use Rattle.std.specs.Option.{option_map}
use Rattle.vec_base.specs.declared.refusal.Refusal.{Refusal}
use Rattle.vec_base.specs.declared.refusal.Refusal.TheVariants.{Duplicate}
use Rattle.vec_base.specs.declared.value.Value.{Value}
use Rattle.row_model.specs.Change.{Elsewhere, row_refusals}
use Rattle.row_model.specs.Check.{group_faults}
use Rattle.row_model.specs.ColumnNames.{is_stored, place_of}
use Rattle.row_model.specs.RefusalOrder.{when}
use Rattle.row_model.specs.RepresentableStatements.{AreRepresentable}
use Rattle.row_model.specs.declared.row.Row.{Row}
use Rattle.row_model.specs.declared.row.Table.{Table}
use Rattle.row_model.specs.declared.schema.Column.{Column}
use Rattle.row_model.specs.declared.schema.Place.{Place}
use Rattle.shadow_records.specs.PlacedTables.{PlacedRow, row_of}
use Rattle.table_version.specs.Versions.{row_with_id, rowid_in}

-- the place of a name that INSERT may have
abbrev pub IsStoredPlace : List Column → Place → Type 0
IsStoredPlace columns place = (name : List ℕ) × (place_of columns name ≡ place) × (is_stored place ≡ true)

-- one value for each place, none that the columns refuse, and none that types can not hold
pub record IsTakenGroup (columns : List Column) (places : List Place) (given : List Value) : Type 0 where
  pub one_each : length given ≡ length places
  pub faultless : group_faults columns places given ≡ []
  pub representable : AreRepresentable given

-- ---- refusals

abbrev pub twice : Option ℤ → List Refusal
twice None = []
twice (Some rowid) = Duplicate rowid ∷ []

-- the rowid that is given is that of a row
abbrev pub given_taken : Option ℤ → List PlacedRow → List Refusal
given_taken None rows = []
given_taken (Some rowid) rows = when (is_some (row_of rows rowid)) (Duplicate rowid)

-- the text is that of a row
abbrev pub taken_text : List Column → Option (List ℕ) → List PlacedRow → List Refusal
taken_text columns None rows = []
taken_text columns (Some id) rows = twice (option_map rowid_in (row_with_id columns id rows))

-- a row of which only the values count
abbrev pub some_row : List Value → Row
some_row values = record { rowid = pos 0; values = values }

-- what refuses the row of these values, where these were given
abbrev pub refusals_of : Elsewhere → Table → Option ℤ → List Value → List Value → List Refusal
refusals_of other table rowid values given = row_refusals other table rowid (some_row values) given
