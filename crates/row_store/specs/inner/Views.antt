-- How chunks, places and entries give the rows of a store, and what holds of them.
use Rattle.std.specs.Prelude.{◌≡◌, ℕ, ◌<◌, ℤ, Bool, true, false, ◌&&◌, ◌==◌, cond, List, [], length, Option, Some, None, is_some}
use Rattle.std.specs.List.{filter_map, list_all}
use Rattle.std.specs.Ordering.{int_eq}
use Rattle.vec_base.specs.declared.value.Value.{Value}
use Rattle.row_chunks.specs.Cells.{is_cell}
use Rattle.row_chunks.specs.RowSlots.{UsedRow}
use Rattle.row_index.specs.Entries.{entry_of}
use Rattle.row_index.specs.declared.entry.Entry.{Entry}
use Rattle.slot_alloc.specs.Places.{PlaceMap, partition_of_chunk, is_used}
use Rattle.slot_alloc.specs.SlotRule.{IsPlaceFor, chunk_of, slot_of}
use Rattle.slot_alloc.specs.declared.place.Place.{Place}
use Rattle.row_store.specs.StoredRows.{StoredRow}
use Rattle.row_store.specs.Touches.{Touches, is_touched_row, is_touched_place}
use Rattle.row_store.specs.declared.rows.Rows.{Rows}
use Rattle.row_store.specs.declared.shape.Shape.{Shape}
use Rattle.row_store.specs.declared.part.Part.{Part}
use Rattle.row_store.specs.declared.place.RowPlace.{RowPlace}
use Rattle.row_store.specs.inner.Parts.{seen_at, ArePartsOf}
use Rattle.row_store.specs.Touches.{IsChunkShape}

abbrev pub values_or_none : Option (List Value) → List Value
values_or_none None = []
values_or_none (Some values) = values

-- the row of an entry, where the slot is used by its rowid
abbrev pub row_in : Option (List Value) → Entry → Option UsedRow → Option StoredRow
row_in partition e None = None
row_in partition e (Some used) = cond (int_eq used.rowid e.rowid)
    (Some (record { rowid = e.rowid; chunk = e.chunk; slot = e.slot; id = e.id; partition = values_or_none partition; vectors = used.vectors; cells = used.cells }))
    None

abbrev pub row_from : List Part → PlaceMap → Entry → Option StoredRow
row_from parts places e = row_in (partition_of_chunk places e.chunk) e (seen_at parts e.chunk e.slot)

-- the rows are those of the entries whose slots are theirs
abbrev pub rows_of : List Part → PlaceMap → List Entry → List StoredRow
rows_of parts places entries = filter_map (row_from parts places) entries

-- ---- what a change that found no memory has left behind

abbrev pub is_claimed : Option RowPlace → ℕ → ℕ → Bool
is_claimed None c s = false
is_claimed (Some claim) c s = c == claim.chunk && s == claim.slot

abbrev pub is_claimed_rowid : Option RowPlace → ℤ → Bool
is_claimed_rowid None i = false
is_claimed_rowid (Some claim) i = int_eq claim.rowid i

-- Slots, places and entries tell of the same rows. Where there is a claim, its place is used and its rowid may have an entry, and it has no row.
pub record AreTied (parts : List Part) (places : PlaceMap) (entries : List Entry) (claim : Option RowPlace) : Type 0 where
  pub entered : (c s : ℕ) (used : UsedRow) → seen_at parts c s ≡ Some used → (e : Entry) × ((entry_of used.rowid entries ≡ Some e) × ((e.chunk ≡ c) × (e.slot ≡ s)))
  pub placed : (c s : ℕ) → is_some (seen_at parts c s) ≡ true → is_used places c s ≡ true
  pub held : (i : ℤ) (e : Entry) → entry_of i entries ≡ Some e → is_claimed_rowid claim i ≡ false → is_some (row_from parts places e) ≡ true
  pub used : (c s : ℕ) → is_used places c s ≡ true → is_claimed claim c s ≡ false → is_some (seen_at parts c s) ≡ true
  pub claimed : (c s : ℕ) → is_claimed claim c s ≡ true → is_used places c s ≡ true
  pub free : (c s : ℕ) → is_claimed claim c s ≡ true → seen_at parts c s ≡ None
  pub absent : (c s : ℕ) (used : UsedRow) → seen_at parts c s ≡ Some used → is_claimed_rowid claim used.rowid ≡ false

-- the rows that are seen
abbrev pub seen_rows : Rows → List StoredRow
seen_rows rows = rows_of rows.parts rows.places rows.index

-- a store in chunks of this shape, with so many rows, and touched places in chunks of so many slots
pub record IsKept (shape : Shape) (count touched : ℕ) (rows : Rows) : Type 0 where
  pub chunks : IsChunkShape shape.size shape.widths
  pub cells : list_all is_cell shape.kinds ≡ true
  pub shapes : ArePartsOf shape rows.parts
  pub sized : rows.places.size ≡ shape.size
  pub counted : count ≡ length (seen_rows rows)
  pub touching : touched ≡ shape.size
  pub tied : AreTied rows.parts rows.places rows.index rows.claim

-- ---- a place that is claimed

-- the place that a row with these partition values takes is claimed for a rowid
pub record IsClaimed (old new : PlaceMap) (partition : List Value) (rowid : ℤ) (at : RowPlace) (claim : Option RowPlace) : Type 0 where
  pub place : Place
  pub fits : IsPlaceFor old partition place
  pub chunk : at.chunk ≡ chunk_of place
  pub slot : at.slot ≡ slot_of place
  pub own : at.rowid ≡ rowid
  pub values : partition_of_chunk new at.chunk ≡ Some partition
  pub within : at.slot < new.size
  pub positive : 0 < at.chunk
  pub claimed : claim ≡ Some at

-- a named place of a chunk with these partition values is claimed for a rowid that has its entry and no row yet
pub record IsEntered (new : Rows) (partition : List Value) (id : Option (List ℕ)) (at : RowPlace) : Type 0 where
  pub claimed : new.claim ≡ Some at
  pub values : partition_of_chunk new.places at.chunk ≡ Some partition
  pub entry : entry_of at.rowid new.index ≡ Some (record { rowid = at.rowid; chunk = at.chunk; slot = at.slot; id = id })

-- a place is claimed for a rowid that has its entry and no row yet, and both are touched
pub record IsReady (old : PlaceMap) (new : Rows) (touches : Touches) (partition : List Value) (rowid : ℤ) (id : Option (List ℕ)) (at : RowPlace) : Type 0 where
  pub claimed : IsClaimed old new.places partition rowid at new.claim
  pub entry : entry_of rowid new.index ≡ Some (record { rowid = rowid; chunk = at.chunk; slot = at.slot; id = id })
  pub row : is_touched_row touches rowid ≡ true
  pub spot : is_touched_place touches at.chunk at.slot ≡ true

-- the row of a rowid lies at a place, both are touched, and nothing is left behind
pub record IsFoundRow (rows : Rows) (touches : Touches) (rowid : ℤ) (at : RowPlace) : Type 0 where
  pub own : at.rowid ≡ rowid
  pub used : UsedRow
  pub seen : seen_at rows.parts at.chunk at.slot ≡ Some used
  pub same : used.rowid ≡ rowid
  pub settled : rows.claim ≡ None
  pub row : is_touched_row touches rowid ≡ true
  pub spot : is_touched_place touches at.chunk at.slot ≡ true
