-- Rows with their places, by rising rowids.
use Rattle.std.specs.Prelude.{◌≡◌, ℕ, ℤ, int_lt, Bool, true, false, ◌&&◌, ◌==◌, if◌then◌else◌, List, find, map, bytes_eq, Option, Some, None, slice_set}
use Rattle.std.specs.Option.{option_map}
use Rattle.std.specs.Ordering.{int_eq}
use Rattle.vec_base.specs.declared.value.Value.{Value}
use Rattle.slot_alloc.specs.Places.{PlaceMap, partition_at, partition_of_chunk}
use Rattle.row_store.specs.Keyed.{keyed_by, with_keyed, without_key}

-- a row: its rowid, its place, its text id if it has one, its partition values, a vector for each vector column, and the values of metadata and
-- auxiliary columns
pub record StoredRow : Type 0 where
  pub rowid : ℤ
  pub chunk : ℕ
  pub slot : ℕ
  pub id : Option (List ℕ)
  pub partition : List Value
  pub vectors : List (List ℕ)
  pub cells : List Value

abbrev pub rowid_of : StoredRow → ℤ
rowid_of row = row.rowid

-- ---- finding rows

abbrev pub row_of : ℤ → List StoredRow → Option StoredRow
row_of rowid rows = keyed_by rowid_of rowid rows

abbrev pub lies_at : ℕ → ℕ → StoredRow → Bool
lies_at chunk slot row = chunk == row.chunk && slot == row.slot

abbrev pub row_at : List StoredRow → ℕ → ℕ → Option StoredRow
row_at rows chunk slot = find (lies_at chunk slot) rows

-- the first row of a chunk; a chunk is there where it has a row
abbrev pub first_in : List StoredRow → ℕ → Option StoredRow
first_in rows chunk = find (λ row. chunk == row.chunk) rows

abbrev pub has_text : List ℕ → Option (List ℕ) → Bool
has_text id None = false
has_text id (Some text) = bytes_eq text id

-- the row of an id
abbrev pub row_with_id : List ℕ → List StoredRow → Option StoredRow
row_with_id id rows = find (λ row. has_text id row.id) rows

-- the first row of a rowid above one, or the first of all
abbrev pub is_above : Option ℤ → ℤ → Bool
is_above None rowid = true
is_above (Some after) rowid = int_lt after rowid

abbrev pub next_row : Option ℤ → List StoredRow → Option StoredRow
next_row after rows = find (λ row. is_above after row.rowid) rows

-- ---- one row more or less

-- before the first row of a greater rowid
abbrev pub with_row : StoredRow → List StoredRow → List StoredRow
with_row row rows = with_keyed rowid_of row rows

-- the rows of all other rowids
abbrev pub without : ℤ → List StoredRow → List StoredRow
without rowid rows = without_key rowid_of rowid rows

-- ---- one row changed

-- the row of the rowid is changed, and the others are as they were
abbrev pub with_changed : ℤ → (StoredRow → StoredRow) → List StoredRow → List StoredRow
with_changed rowid change rows = map (λ row. if int_eq row.rowid rowid then change row else row) rows

-- the row with another vector in a vector column
abbrev pub with_vector : ℕ → List ℕ → StoredRow → StoredRow
with_vector column vector row = record row { vectors = slice_set row.vectors column vector }

-- the row with another value in a cell
abbrev pub with_cell : ℕ → Value → StoredRow → StoredRow
with_cell index value row = record row { cells = slice_set row.cells index value }

-- ---- the places of rows

-- just the places of the rows are used, with their partition values
pub record PlacesAre (slots : ℕ) (rows : List StoredRow) (places : PlaceMap) : Type 0 where
  pub size : places.size ≡ slots
  pub used : (c s : ℕ) → partition_at places c s ≡ option_map (λ row. row.partition) (row_at rows c s)
  pub chunks : (c : ℕ) → partition_of_chunk places c ≡ option_map (λ row. row.partition) (first_in rows c)
