-- A row that changes in its place: what the parts of the store tell then.
use Rattle.std.proofs.Common.{◌≡◌, ℕ, ℤ, Bool, true, false, cond, if◌then◌else◌, List, [], ◌∷◌, length, refl, sym, ap, ◌∙◌, arith, subst, Some, None}
use Rattle.std.specs.Prelude.{◌&&◌, ◌==◌, map, is_some, slice_set}
use Rattle.std.specs.List.{AllByRecursion, cons_option, filter_map}
use Rattle.std.specs.Option.{option_map}
use Rattle.std.specs.Ordering.{int_eq}
use Rattle.std.specs.declared.option.Option.{Option}
use Rattle.std.proofs.lemmas.Bool.{cond-true, cond-false}
use Rattle.std.proofs.lemmas.Int.{ints}
use Rattle.std.proofs.lemmas.List.{length-map}
use Rattle.vec_base.specs.declared.value.Value.{Value}
use Rattle.row_chunks.specs.RowSlots.{UsedRow}
use Rattle.row_index.specs.Entries.{entry_of, is_rising}
use Rattle.row_index.specs.declared.entry.Entry.{Entry}
use Rattle.slot_alloc.specs.Places.{PlaceMap, partition_of_chunk}
use Rattle.row_store.specs.StoredRows.{StoredRow, rowid_of, row_of, lies_at, with_changed}
use Rattle.row_store.specs.Touches.{Touches, StoreState, KeepsOrigin}
use Rattle.row_store.specs.declared.part.Part.{Part}
use Rattle.row_store.specs.declared.part.RowChange.{RowChange}
use Rattle.row_store.specs.declared.part.RowChange.TheVariants.{Vector, Cell}
use Rattle.row_store.specs.declared.place.RowPlace.{RowPlace}
use Rattle.row_store.specs.declared.rows.Rows.{Rows}
use Rattle.row_store.specs.declared.shape.Shape.{Shape}
use Rattle.row_store.specs.inner.Changes.{Fits, row_changed, slot_changed}
use Rattle.row_store.specs.inner.Parts.{part_of, seen_at, seen_in, ArePartsOf, HasShape, IsChangedAt, KeepShapes}
use Rattle.row_store.specs.inner.Views.{row_in, row_from, rows_of, seen_rows, values_or_none, AreTied, IsKept, IsFoundRow}
use Rattle.row_store.specs.inner.Widening.{IsWider}
use Rattle.row_store.proofs.FollowLaws.{follows-changed}
use Rattle.row_store.proofs.PickLaws.{KeepsKeys}
use Rattle.row_store.proofs.ReadLaws.{part-such}
use Rattle.row_store.proofs.RemoveLaws.{one_slot, row-found, only-there}
use Rattle.row_store.proofs.SlotLaws.{IsChangedRow, changed-row}
use Rattle.row_store.proofs.TieLaws.{entry_rowid, keeps, eq_from, both_equal, same_place, row_in-is, row_in-none}

-- ---- lists by keys

abbrev changed_where : {R : Type 0} → (R → ℤ) → ℤ → (R → R) → R → R
changed_where name i change r = if int_eq (name r) i then change r else r

-- what is picked when elements of one key give something changed
picked-changed : {E R : Type 0} (key : E → ℤ) (name : R → ℤ) (f g : E → Option R) (change : R → R) (i : ℤ) (xs : List E) → KeepsKeys key name f →
    ((x : E) → int_eq (key x) i ≡ true → g x ≡ option_map change (f x)) → ((x : E) → int_eq (key x) i ≡ false → g x ≡ f x) →
    filter_map g xs ≡ map (changed_where name i change) (filter_map f xs)
picked-changed key name f g change i [] keeps own others = refl
picked-changed {E} {R} key name f g change i (x ∷ xs) keeps own others = by_key (int_eq (key x) i) refl (picked-changed key name f g change i xs keeps own others) where
  here : (o : Option R) → f x ≡ o → int_eq (key x) i ≡ true → filter_map g xs ≡ map (changed_where name i change) (filter_map f xs) → cons_option (option_map change o) (filter_map g xs) ≡ map (changed_where name i change) (cons_option o (filter_map f xs))
  here None is e rest = rest
  here (Some r) is e rest = let t : int_eq (name r) i ≡ true = ap (λ k. int_eq k i) (keeps x r is) ∙ e in rw (t, rest) refl

  there : (o : Option R) → f x ≡ o → int_eq (key x) i ≡ false → filter_map g xs ≡ map (changed_where name i change) (filter_map f xs) → cons_option o (filter_map g xs) ≡ map (changed_where name i change) (cons_option o (filter_map f xs))
  there None is e rest = rest
  there (Some r) is e rest = let t : int_eq (name r) i ≡ false = ap (λ k. int_eq k i) (keeps x r is) ∙ e in rw (t, rest) refl

  by_key : (t : Bool) → int_eq (key x) i ≡ t → filter_map g xs ≡ map (changed_where name i change) (filter_map f xs) → filter_map g (x ∷ xs) ≡ map (changed_where name i change) (filter_map f (x ∷ xs))
  by_key true e rest = ap (λ o. cons_option o (filter_map g xs)) (own x e) ∙ here (f x) refl e rest
  by_key false e rest = ap (λ o. cons_option o (filter_map g xs)) (others x e) ∙ there (f x) refl e rest

-- where no element has the key, all stay
pub changed-none : (change : StoredRow → StoredRow) (i : ℤ) (rows : List StoredRow) → row_of i rows ≡ None → with_changed i change rows ≡ rows
changed-none change i [] none = refl
changed-none change i (r ∷ rs) none = by_key (int_eq r.rowid i) refl none (λ later. changed-none change i rs later) where
  by_key : (t : Bool) → int_eq r.rowid i ≡ t → cond t (Some r) (row_of i rs) ≡ None → (row_of i rs ≡ None → with_changed i change rs ≡ rs) → with_changed i change (r ∷ rs) ≡ r ∷ rs
  by_key true e h rest = absurd cc
  by_key false e h rest = rw e (ap (λ l. r ∷ l) (rest h))

-- ---- the row of an entry

abbrev row_made : Entry → List Value → UsedRow → StoredRow
row_made e values used = record { rowid = e.rowid; chunk = e.chunk; slot = e.slot; id = e.id; partition = values; vectors = used.vectors; cells = used.cells }

-- what a slot holds after a change gives the row after it
made-changed : (change : RowChange) (e : Entry) (values : List Value) (old new : UsedRow) → slot_changed change (Some old) ≡ Some new → row_made e values new ≡ row_changed change (row_made e values old)
made-changed (Vector column vector) e values old new is = let s : record { rowid = old.rowid; vectors = slice_set old.vectors column vector.now; cells = old.cells } ≡ new = cc in ap (row_made e values) (sym s)
made-changed (Cell index value) e values old new is = let s : record { rowid = old.rowid; vectors = old.vectors; cells = slice_set old.cells index value.now } ≡ new = cc in ap (row_made e values) (sym s)

-- a change leaves a row's rowid and its place
record IsStill (change : StoredRow → StoredRow) : Type 0 where
  pub rowid : (r : StoredRow) → rowid_of (change r) ≡ rowid_of r
  pub place : (c s : ℕ) (r : StoredRow) → lies_at c s (change r) ≡ lies_at c s r

still : (change : RowChange) → IsStill (row_changed change)
still (Vector column vector) = record { rowid = λ r. refl; place = λ c s r. refl }
still (Cell index value) = record { rowid = λ r. refl; place = λ c s r. refl }

-- ---- the row of a slot changes

module _ (parts new : List Part) (places : PlaceMap) (entries : List Entry) (chunk slot : ℕ) (used next : UsedRow) (change : RowChange)
    (tied : AreTied parts places entries None) (seen : seen_at parts chunk slot ≡ Some used)
    (same : next.rowid ≡ used.rowid) (made : slot_changed change (Some used) ≡ Some next)
    (to : IsChangedAt chunk slot (Some next) parts new) where
  others : (c s : ℕ) → (c == chunk && s == slot) ≡ false → seen_at new c s ≡ seen_at parts c s
  others c s other = to.seen c s ∙ cond-false _ _ _ other

  seen_then : (c s : ℕ) → (c == chunk && s == slot) ≡ true → seen_at new c s ≡ Some next
  seen_then c s at = to.seen c s ∙ cond-true _ _ _ at

  seen_before : (c s : ℕ) → (c == chunk && s == slot) ≡ true → seen_at parts c s ≡ Some used
  seen_before c s at = let p = both_equal c chunk s slot at in rw (p.0, p.1) seen

  -- just the slots that were used are used
  used_alike : (c s : ℕ) → is_some (seen_at new c s) ≡ is_some (seen_at parts c s)
  used_alike c s = by_place (c == chunk && s == slot) refl where
    by_place : (t : Bool) → (c == chunk && s == slot) ≡ t → is_some (seen_at new c s) ≡ is_some (seen_at parts c s)
    by_place true at = ap is_some (seen_then c s at) ∙ sym (ap is_some (seen_before c s at))
    by_place false at = ap is_some (others c s at)

  own_row : (x : Entry) → int_eq x.rowid used.rowid ≡ true → row_from new places x ≡ option_map (row_changed change) (row_from parts places x)
  own_row x own = by_place (x.chunk == chunk && x.slot == slot) refl where
    values : Option (List Value)
    values = partition_of_chunk places x.chunk

    own_used : used.rowid ≡ x.rowid
    own_used = sym (eq_from x.rowid used.rowid own)

    -- at another place the rowid has no row
    elsewhere : (x.chunk == chunk && x.slot == slot) ≡ false → row_from parts places x ≡ None
    elsewhere at = row_in-none values x (seen_at parts x.chunk x.slot) (λ u is. by_test u is (int_eq u.rowid x.rowid) refl) where
      by_test : (u : UsedRow) → seen_at parts x.chunk x.slot ≡ Some u → (t : Bool) → int_eq u.rowid x.rowid ≡ t → int_eq u.rowid x.rowid ≡ false
      by_test u is false h = h
      by_test u is true h =
          let p = one_slot parts places entries None tied x.chunk x.slot chunk slot u used is seen (eq_from u.rowid x.rowid h ∙ sym own_used) in
          let here : (x.chunk == chunk && x.slot == slot) ≡ true = rw (p.0, p.1) (same_place chunk slot) in
          let never : true ≡ false = sym here ∙ at in
          absurd cc

    by_place : (t : Bool) → (x.chunk == chunk && x.slot == slot) ≡ t → row_from new places x ≡ option_map (row_changed change) (row_from parts places x)
    by_place true at =
        row_in-is values x (seen_at new x.chunk x.slot) next (seen_then x.chunk x.slot at) (same ∙ own_used)
        ∙ ap Some (made-changed change x (values_or_none values) used next made)
        ∙ sym (ap (option_map (row_changed change)) (row_in-is values x (seen_at parts x.chunk x.slot) used (seen_before x.chunk x.slot at) own_used))
    by_place false at =
        ap (row_in values x) (others x.chunk x.slot at) ∙ elsewhere at ∙ sym (ap (option_map (row_changed change)) (elsewhere at))

  other_row : (x : Entry) → int_eq x.rowid used.rowid ≡ false → row_from new places x ≡ row_from parts places x
  other_row x other = by_place (x.chunk == chunk && x.slot == slot) refl where
    not_own : (w : UsedRow) → w.rowid ≡ used.rowid → (o : Option UsedRow) → o ≡ Some w → row_in (partition_of_chunk places x.chunk) x o ≡ None
    not_own w w_is o is = row_in-none (partition_of_chunk places x.chunk) x o (λ u u_is. none u (sym u_is ∙ is)) where
      apart : (a b : ℤ) → int_eq b a ≡ false → int_eq a b ≡ false
      apart a b h = grind (arith, ints)

      none : (u : UsedRow) → Some u ≡ Some w → int_eq u.rowid x.rowid ≡ false
      none u e = let u_is : u ≡ w = cc in ap (λ v. int_eq v.rowid x.rowid) u_is ∙ ap (λ i. int_eq i x.rowid) w_is ∙ apart used.rowid x.rowid other

    by_place : (t : Bool) → (x.chunk == chunk && x.slot == slot) ≡ t → row_from new places x ≡ row_from parts places x
    by_place true at = not_own next same (seen_at new x.chunk x.slot) (seen_then x.chunk x.slot at) ∙ sym (not_own used refl (seen_at parts x.chunk x.slot) (seen_before x.chunk x.slot at))
    by_place false at = ap (row_in (partition_of_chunk places x.chunk) x) (others x.chunk x.slot at)

  pub changed-rows : rows_of new places entries ≡ with_changed used.rowid (row_changed change) (rows_of parts places entries)
  changed-rows = picked-changed entry_rowid rowid_of (row_from parts places) (row_from new places) (row_changed change) used.rowid entries (keeps parts places) own_row other_row

  rows_alike : (x : Entry) → is_some (row_from new places x) ≡ is_some (row_from parts places x)
  rows_alike x = by_key (int_eq x.rowid used.rowid) refl where
    mapped : (o : Option StoredRow) → is_some (option_map (row_changed change) o) ≡ is_some o
    mapped None = refl
    mapped (Some r) = refl

    by_key : (t : Bool) → int_eq x.rowid used.rowid ≡ t → is_some (row_from new places x) ≡ is_some (row_from parts places x)
    by_key true e = ap is_some (own_row x e) ∙ mapped (row_from parts places x)
    by_key false e = ap is_some (other_row x e)

  pub changed-tied : AreTied new places entries None
  changed-tied = record {
    entered = λ c s u is. entered c s u is (c == chunk && s == slot) refl;
    placed = λ c s is. tied.placed c s (sym (used_alike c s) ∙ is);
    held = λ i x is other. rows_alike x ∙ tied.held i x is other;
    used = λ c s is other. used_alike c s ∙ tied.used c s is other;
    claimed = tied.claimed;
    free = λ c s never. absurd cc;
    absent = λ c s u is. refl;
  } where
    entered : (c s : ℕ) (u : UsedRow) → seen_at new c s ≡ Some u → (t : Bool) → (c == chunk && s == slot) ≡ t → (x : Entry) × ((entry_of u.rowid entries ≡ Some x) × ((x.chunk ≡ c) × (x.slot ≡ s)))
    entered c s u is true at =
        let e : Some next ≡ Some u = sym (seen_then c s at) ∙ is in
        let u_is : next ≡ u = cc in
        let i_is : u.rowid ≡ used.rowid = ap (λ w. w.rowid) (sym u_is) ∙ same in
        let x = tied.entered c s used (seen_before c s at) in
        (x.0, (ap (λ i. entry_of i entries) i_is ∙ x.1.0, x.1.1))
    entered c s u is false at = tied.entered c s u (sym (others c s at) ∙ is)

-- what fits the shape of all chunks fits each
pub part-fits : (alike : Shape) (parts : List Part) (c : ℕ) (change : RowChange) → ArePartsOf alike parts → Fits alike.widths alike.kinds change → (p : Part) → part_of parts c ≡ Some p → Fits p.slots.widths p.slots.kinds change
part-fits alike parts c change are fits p is =
    let shape : HasShape alike p = part-such (HasShape alike) parts c p are.shaped is in
    subst (λ ws. Fits ws p.slots.kinds change) (sym shape.wide) (subst (λ ks. Fits alike.widths ks change) (sym shape.celled) fits)

-- ---- what the store tells

module _ (alike : Shape) (count : ℕ) (before after : Touches) (rows found : Rows) (parts : List Part) (rowid : ℤ) (at : RowPlace) (change : RowChange)
    (kept : IsKept alike count before.places.size rows) (old_parts : found.parts ≡ rows.parts)
    (tied : AreTied found.parts found.places found.index found.claim)
    (same : seen_rows found ≡ seen_rows rows) (sized : found.places.size ≡ rows.places.size) (wider : IsWider before after)
    (here : IsFoundRow found after rowid at) (rise : is_rising found.index ≡ true) (fits : Fits alike.widths alike.kinds change)
    (to : IsChangedAt at.chunk at.slot (slot_changed change (seen_at found.parts at.chunk at.slot)) found.parts parts) (shapes : KeepShapes found.parts parts) where
  free : AreTied found.parts found.places found.index None
  free = subst (AreTied found.parts found.places found.index) here.settled tied

  abbrev row : UsedRow
  row = here.used

  old_shape : ArePartsOf alike found.parts
  old_shape = subst (ArePartsOf alike) (sym old_parts) kept.shapes

  wide : map length row.vectors ≡ alike.widths
  wide = by_part (part_of found.parts at.chunk) refl here.seen where
    by_part : (o : Option Part) → part_of found.parts at.chunk ≡ o → seen_in o at.slot ≡ Some row → map length row.vectors ≡ alike.widths
    by_part None is h = absurd cc
    by_part (Some p) is h = let shape : HasShape alike p = part-such (HasShape alike) found.parts at.chunk p old_shape.shaped is in shape.vectors at.slot row h

  abbrev next : IsChangedRow alike.widths change row
  next = changed-row alike.widths alike.kinds change row wide fits

  changed : IsChangedAt at.chunk at.slot (Some next.new) found.parts parts
  changed = subst (λ o. IsChangedAt at.chunk at.slot o found.parts parts) (ap (slot_changed change) here.seen ∙ next.is) to

  abbrev finished : Rows
  finished = record { parts = parts; places = found.places; index = found.index; claim = found.claim }

  pub changed-seen : seen_rows finished ≡ with_changed rowid (row_changed change) (seen_rows rows)
  changed-seen =
      changed-rows found.parts parts found.places found.index at.chunk at.slot row next.new change free here.seen next.same next.is changed
      ∙ ap (λ i. with_changed i (row_changed change) (seen_rows found)) here.same ∙ ap (with_changed rowid (row_changed change)) same

  pub changed-kept : IsKept alike count after.places.size finished
  changed-kept = record {
    chunks = kept.chunks;
    cells = kept.cells;
    shapes = shapes alike old_shape;
    sized = sized ∙ kept.sized;
    counted = kept.counted ∙ sym (ap length changed-seen ∙ length-map (seen_rows rows) (λ r. if int_eq r.rowid rowid then row_changed change r else r));
    touching = wider.places.size ∙ kept.touching;
    tied = subst (AreTied parts found.places found.index) (sym here.settled) (changed-tied found.parts parts found.places found.index at.chunk at.slot row next.new change free here.seen next.same next.is changed);
  }

  pub changed-there : is_some (row_of rowid (seen_rows rows)) ≡ true
  changed-there = ap is_some (ap (row_of rowid) (sym same) ∙ (row-found found after rowid at free rise here).1)

  abbrev state_before : StoreState
  state_before = record { size = alike.size; widths = alike.widths; kinds = alike.kinds; rows = seen_rows rows; touches = before }

  pub changed-origin : KeepsOrigin state_before (record { size = alike.size; widths = alike.widths; kinds = alike.kinds; rows = seen_rows finished; touches = after })
  changed-origin = follows-changed state_before (record { size = alike.size; widths = alike.widths; kinds = alike.kinds; rows = seen_rows finished; touches = after }) rowid (row_changed change) wider here.row
      (still change).rowid (still change).place (λ c s out. subst (AllByRecursion (λ r. int_eq (rowid_of r) rowid ≡ true → lies_at c s r ≡ false)) same (only-there found after rowid at free here c s out)) changed-seen
