-- The state of a store: its rows, and where it may differ from the store that it was shared from. To touch more than what differs does no harm.
use Rattle.std.specs.Prelude.{◌≡◌, ℕ, ◌≤◌, ◌%◌, ℤ, Bool, false, List, Option}
use Rattle.std.specs.List.{All}
use Rattle.vec_base.specs.declared.limits.TheConstants.{MOST_CHUNK_SIZE, MOST_DIMENSIONS}
use Rattle.row_index.specs.Entries.{has_rowid}
use Rattle.row_index.specs.declared.entry.Entry.{Entry}
use Rattle.vec_base.specs.declared.value.Value.{Value}
use Rattle.slot_alloc.specs.Places.{PlaceMap, is_used}
use Rattle.slot_alloc.specs.SlotRule.{IsPlaceFor, chunk_of, slot_of}
use Rattle.slot_alloc.specs.declared.place.Place.{Place}
use Rattle.row_model.specs.declared.schema.Kind.{Kind}
use Rattle.row_store.specs.StoredRows.{StoredRow, row_of, row_at, with_row, PlacesAre}

-- the touched rowids, and the touched places
pub record Touches : Type 0 where
  pub rows : List Entry
  pub places : PlaceMap

abbrev pub is_touched_row : Touches → ℤ → Bool
is_touched_row touches rowid = has_rowid rowid touches.rows

abbrev pub is_touched_place : Touches → ℕ → ℕ → Bool
is_touched_place touches chunk slot = is_used touches.places chunk slot

-- the sizes of chunks, the bytes of a vector of each vector column, the kinds of metadata and auxiliary columns, the rows, and what was touched
-- since the store was shared
pub record StoreState : Type 0 where
  pub size : ℕ
  pub widths : List ℕ
  pub kinds : List Kind
  pub rows : List StoredRow
  pub touches : Touches

-- the rows differ from the older ones where it was touched, and nowhere else
pub record Follows (older : List StoredRow) (newer : StoreState) : Type 0 where
  pub by_rowid : (i : ℤ) → is_touched_row newer.touches i ≡ false → row_of i older ≡ row_of i newer.rows
  pub by_place : (c s : ℕ) → is_touched_place newer.touches c s ≡ false → row_at older c s ≡ row_at newer.rows c s

-- what the old state follows the new one follows too
abbrev pub KeepsOrigin : StoreState → StoreState → Type 0
KeepsOrigin old new = (base : List StoredRow) → Follows base old → Follows base new

-- ---- what puts make of a store

-- The row stands at the place that a row with its partition values takes beside the others.
pub record IsPut (old new : StoreState) (rowid : ℤ) (id : Option (List ℕ)) (partition : List Value) (vectors : List (List ℕ)) (cells : List Value) : Type 0 where
  pub place : Place
  pub places : PlaceMap
  pub are : PlacesAre old.size old.rows places
  pub taken : IsPlaceFor places partition place
  pub rows : new.rows ≡ with_row (record { rowid = rowid; chunk = chunk_of place; slot = slot_of place; id = id; partition = partition; vectors = vectors; cells = cells }) old.rows

-- what no change changes
pub record HasSameShape (old new : StoreState) : Type 0 where
  pub size : new.size ≡ old.size
  pub widths : new.widths ≡ old.widths
  pub kinds : new.kinds ≡ old.kinds

-- a number of slots and widths of vectors that chunks can have
pub record IsChunkShape (size : ℕ) (widths : List ℕ) : Type 0 where
  pub eights : size % 8 ≡ 0
  pub few : size ≤ MOST_CHUNK_SIZE
  pub short : All (λ width. width ≤ MOST_DIMENSIONS) widths
