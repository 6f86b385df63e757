-- A row that takes its place: what the parts of the store tell then.
use Rattle.std.proofs.Common.{◌≡◌, ℕ, ℤ, int_lt, ◌+◌, Bool, true, false, if◌then◌else◌, List, [], ◌∷◌, length, refl, sym, ap, ◌∙◌, arith, subst, Some, None}
use Rattle.std.specs.declared.option.Option.{Option}
use Rattle.vec_base.specs.declared.value.Value.{Value}
use Rattle.row_chunks.specs.RowSlots.{used_by}
use Rattle.row_index.specs.Entries.{is_rising, entry_of}
use Rattle.row_index.specs.declared.entry.Entry.{Entry}
use Rattle.slot_alloc.specs.Places.{PlaceMap}
use Rattle.slot_alloc.specs.SlotRule.{chunk_of}
use Rattle.row_store.specs.Keyed.{with_keyed}
use Rattle.row_store.specs.StoredRows.{StoredRow, rowid_of, with_row, PlacesAre}
use Rattle.row_store.specs.Touches.{Touches, StoreState, IsPut, KeepsOrigin}
use Rattle.row_store.specs.declared.part.Part.{Part}
use Rattle.row_store.specs.declared.shape.Shape.{Shape}
use Rattle.row_store.specs.declared.place.RowPlace.{RowPlace}
use Rattle.row_store.specs.declared.rows.Rows.{Rows}
use Rattle.row_store.specs.inner.Parts.{ArePartsOf, IsChangedAt}
use Rattle.row_store.specs.inner.Views.{seen_rows, AreTied, IsEntered, IsKept, IsReady}
use Rattle.row_store.specs.inner.Widening.{IsWider}
use Rattle.row_store.proofs.FollowLaws.{follows-put}
use Rattle.row_store.proofs.TieLaws.{entry_at, placed-rows, placed-tied}

pub length-with : {A : Type 0} (key : A → ℤ) (new : A) (xs : List A) → length (with_keyed key new xs) ≡ length xs + 1
length-with key new [] = refl
length-with key new (x ∷ xs) = by_order (int_lt (key new) (key x)) (length-with key new xs) where
  by_order : (t : Bool) → length (with_keyed key new xs) ≡ length xs + 1 → length (if t then new ∷ x ∷ xs else x ∷ with_keyed key new xs) ≡ length (x ∷ xs) + 1
  by_order true rest = omega arith
  by_order false rest = let h : length (with_keyed key new xs) ≡ length xs + 1 = rest in omega (arith, h)

-- ---- the row of a claim comes

module _ (alike : Shape) (count before after : ℕ) (rows ready : Rows) (parts : List Part)
    (id : Option (List ℕ)) (partition : List Value) (vectors : List (List ℕ)) (cells : List Value) (at : RowPlace)
    (kept : IsKept alike count before rows)
    (tied : AreTied ready.parts ready.places ready.index ready.claim)
    (same : seen_rows ready ≡ seen_rows rows) (sized : ready.places.size ≡ rows.places.size) (touching : after ≡ before)
    (entered : IsEntered ready partition id at)
    (rise : is_rising ready.index ≡ true)
    (change : IsChangedAt at.chunk at.slot (used_by at.rowid vectors cells) ready.parts parts)
    (shapes : ArePartsOf alike parts) where
  tied_at : AreTied ready.parts ready.places ready.index (Some at)
  tied_at = subst (AreTied ready.parts ready.places ready.index) entered.claimed tied

  abbrev placed_row : StoredRow
  placed_row = record { rowid = at.rowid; chunk = at.chunk; slot = at.slot; id = id; partition = partition; vectors = vectors; cells = cells }

  abbrev completed : Rows
  completed = record { parts = parts; places = ready.places; index = ready.index; claim = None }

  pub completed-rows : seen_rows completed ≡ with_row placed_row (seen_rows rows)
  completed-rows =
      placed-rows ready.parts parts ready.places ready.index at (entry_at at id) (record { rowid = at.rowid; vectors = vectors; cells = cells }) partition tied_at rise entered.entry refl refl refl change entered.values
      ∙ ap (with_row placed_row) same

  pub completed-kept : IsKept alike (count + 1) after completed
  completed-kept = record {
    chunks = kept.chunks;
    cells = kept.cells;
    shapes = shapes;
    sized = sized ∙ kept.sized;
    counted = ap (λ n. n + 1) kept.counted ∙ sym (ap length completed-rows ∙ length-with rowid_of placed_row (seen_rows rows));
    touching = touching ∙ kept.touching;
    tied = placed-tied ready.parts parts ready.places ready.index at (entry_at at id) (record { rowid = at.rowid; vectors = vectors; cells = cells }) partition tied_at rise entered.entry refl refl refl change entered.values;
  }

-- ---- the same where its place was taken by the rule

module _ (alike : Shape) (count : ℕ) (before after : Touches) (rows ready : Rows) (parts : List Part)
    (rowid : ℤ) (id : Option (List ℕ)) (partition : List Value) (vectors : List (List ℕ)) (cells : List Value) (at : RowPlace)
    (kept : IsKept alike count before.places.size rows)
    (tied : AreTied ready.parts ready.places ready.index ready.claim)
    (same : seen_rows ready ≡ seen_rows rows) (sized : ready.places.size ≡ rows.places.size) (wider : IsWider before after)
    (place : (old : PlaceMap) × (PlacesAre rows.places.size (seen_rows rows) old × IsReady old ready after partition rowid id at))
    (rise : is_rising ready.index ≡ true)
    (change : IsChangedAt at.chunk at.slot (used_by at.rowid vectors cells) ready.parts parts)
    (shapes : ArePartsOf alike parts) where
  entered : IsEntered ready partition id at
  entered = record {
    claimed = place.1.1.claimed.claimed;
    values = place.1.1.claimed.values;
    entry =
        ap (λ i. entry_of i ready.index) place.1.1.claimed.own ∙ place.1.1.entry
        ∙ ap (λ i. Some (with_rowid i)) (sym place.1.1.claimed.own);
  } where
    with_rowid : ℤ → Entry
    with_rowid i = record { rowid = i; chunk = at.chunk; slot = at.slot; id = id }

  abbrev new_row : StoredRow
  new_row = record { rowid = rowid; chunk = at.chunk; slot = at.slot; id = id; partition = partition; vectors = vectors; cells = cells }

  abbrev finished : Rows
  finished = record { parts = parts; places = ready.places; index = ready.index; claim = None }

  pub put-rows : seen_rows finished ≡ with_row new_row (seen_rows rows)
  put-rows =
      completed-rows alike count before.places.size after.places.size rows ready parts id partition vectors cells at kept tied same sized wider.places.size entered rise change shapes
      ∙ ap (λ i. with_row (made i) (seen_rows rows)) place.1.1.claimed.own
    where
      made : ℤ → StoredRow
      made i = record { rowid = i; chunk = at.chunk; slot = at.slot; id = id; partition = partition; vectors = vectors; cells = cells }

  pub put-kept : IsKept alike (count + 1) after.places.size finished
  put-kept = completed-kept alike count before.places.size after.places.size rows ready parts id partition vectors cells at kept tied same sized wider.places.size entered rise change shapes

  abbrev state_before : StoreState
  state_before = record { size = alike.size; widths = alike.widths; kinds = alike.kinds; rows = seen_rows rows; touches = before }

  abbrev state_after : StoreState
  state_after = record { size = alike.size; widths = alike.widths; kinds = alike.kinds; rows = seen_rows finished; touches = after }

  pub put-told : IsPut state_before state_after rowid id partition vectors cells
  put-told = record {
    place = place.1.1.claimed.place;
    places = place.0;
    are = subst (λ n. PlacesAre n (seen_rows rows) place.0) kept.sized place.1.0;
    taken = place.1.1.claimed.fits;
    rows = put-rows ∙ ap (λ c. with_row (at_chunk c at.slot) (seen_rows rows)) place.1.1.claimed.chunk ∙ ap (λ s. with_row (at_chunk (chunk_of place.1.1.claimed.place) s) (seen_rows rows)) place.1.1.claimed.slot;
  } where
    at_chunk : ℕ → ℕ → StoredRow
    at_chunk c s = record { rowid = rowid; chunk = c; slot = s; id = id; partition = partition; vectors = vectors; cells = cells }

  pub put-origin : KeepsOrigin state_before state_after
  put-origin = follows-put state_before state_after new_row wider place.1.1.row place.1.1.spot put-rows
