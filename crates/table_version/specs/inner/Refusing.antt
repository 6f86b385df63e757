-- What refuses a new row, by what is stored.
use Rattle.std.specs.Prelude.{ℕ, ◌+◌, ℤ, List, length, [], ◌∷◌, Option, Some, None, is_some}
use Rattle.std.specs.Option.{option_map, option_or}
use Rattle.vec_base.specs.declared.refusal.Refusal.{Refusal}
use Rattle.vec_base.specs.declared.refusal.Refusal.TheVariants.{Duplicate}
use Rattle.row_model.specs.Change.{spent}
use Rattle.row_model.specs.Limits.{over_rows}
use Rattle.row_model.specs.RefusalOrder.{first, when}
use Rattle.row_store.specs.StoredRows.{StoredRow, rowid_of, row_of, row_with_id}

abbrev pub twice : Option ℤ → List Refusal
twice None = []
twice (Some rowid) = Duplicate rowid ∷ []

-- the text is that of a row
abbrev pub taken_text : Option (List ℕ) → List StoredRow → List Refusal
taken_text None rows = []
taken_text (Some id) rows = twice (option_map rowid_of (row_with_id id rows))

-- the rowid that is given is that of a row
abbrev pub given_taken : Option ℤ → List StoredRow → List Refusal
given_taken None rows = []
given_taken (Some rowid) rows = when (is_some (row_of rowid rows)) (Duplicate rowid)

-- the first of all refusals, where the values have this text id
abbrev pub first_of : List StoredRow → Option (List ℕ) → ℤ → Option ℤ → Option Refusal
first_of rows id top rowid =
    option_or (option_or (option_or (first (given_taken rowid rows)) (first (taken_text id rows))) (first (spent top rowid))) (first (over_rows (length rows + 1)))
