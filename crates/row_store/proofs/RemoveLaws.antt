-- A row that goes: what the parts of the store tell then.
use Rattle.std.proofs.Common.{◌≡◌, ℕ, ℤ, int_lt, ◌+◌, ◌-◌, Bool, true, false, cond, List, [], ◌∷◌, length, refl, sym, ap, ◌∙◌, arith, subst, Some, None}
use Rattle.std.specs.List.{AllByRecursion, find, list_all}
use Rattle.std.specs.Option.{option_and_then}
use Rattle.std.specs.Ordering.{int_eq}
use Rattle.std.specs.declared.option.Option.{Option}
use Rattle.std.proofs.lemmas.Bool.{and_parts}
use Rattle.std.proofs.lemmas.Int.{ints}
use Rattle.row_chunks.specs.RowSlots.{UsedRow}
use Rattle.row_index.specs.Entries.{is_rising, entry_of}
use Rattle.row_index.specs.declared.entry.Entry.{Entry}
use Rattle.slot_alloc.specs.Places.{PlaceMap}
use Rattle.row_store.specs.Keyed.{keys_rise, keyed_by, without_key}
use Rattle.row_store.specs.StoredRows.{StoredRow, rowid_of, row_of, row_at, lies_at, without}
use Rattle.row_store.specs.Touches.{Touches, StoreState, KeepsOrigin, is_touched_place}
use Rattle.row_store.specs.declared.part.Part.{Part}
use Rattle.row_store.specs.declared.shape.Shape.{Shape}
use Rattle.row_store.specs.declared.place.RowPlace.{RowPlace}
use Rattle.row_store.specs.declared.rows.Rows.{Rows}
use Rattle.row_store.specs.inner.Parts.{seen_at, ArePartsOf, IsChangedAt, KeepShapes}
use Rattle.row_store.specs.inner.Views.{row_from, rows_of, seen_rows, AreTied, IsKept, IsFoundRow}
use Rattle.row_store.specs.inner.Widening.{IsWider}
use Rattle.row_store.proofs.FollowLaws.{follows-removed}
use Rattle.row_store.proofs.PickLaws.{picked-rise}
use Rattle.row_store.proofs.TieLaws.{entry_rowid, keeps, entries_rise, eq_from, both_equal, dropped-rows, dropped-tied}
use Rattle.row_store.proofs.ViewLaws.{IsRowOf, row-told, row_of-entry, seen-row, all-picked}

-- ---- lists by keys

above-other : (a b i : ℤ) → int_lt a b ≡ true → int_eq a i ≡ true → int_eq b i ≡ false
above-other a b i h k = grind (arith, ints)

without-above : {A : Type 0} (key : A → ℤ) (a i : ℤ) (xs : List A) → list_all (λ y. int_lt a (key y)) xs ≡ true → int_eq a i ≡ true → without_key key i xs ≡ xs
without-above key a i [] above e = refl
without-above key a i (y ∷ ys) above e =
    let other : int_eq (key y) i ≡ false = above-other a (key y) i (and_parts _ _ above).0 e in
    rw other (ap (λ l. y ∷ l) (without-above key a i ys (and_parts _ _ above).1 e))

-- one element goes
pub length-without : {A : Type 0} (key : A → ℤ) (i : ℤ) (xs : List A) (x : A) → keys_rise key xs ≡ true → keyed_by key i xs ≡ Some x → length (without_key key i xs) + 1 ≡ length xs
length-without key i [] x rise there = absurd cc
length-without {A} key i (y ∷ ys) x rise there = by_key (int_eq (key y) i) refl there (λ later. length-without key i ys x (and_parts _ _ rise).1 later) where
  by_key : (t : Bool) → int_eq (key y) i ≡ t → cond t (Some y) (keyed_by key i ys) ≡ Some x → (keyed_by key i ys ≡ Some x → length (without_key key i ys) + 1 ≡ length ys) → length (without_key key i (y ∷ ys)) + 1 ≡ length (y ∷ ys)
  by_key true e h rest = rw (e, without-above key (key y) i ys (and_parts _ _ rise).0 e) (omega arith)
  by_key false e h rest = let r = rest h in rw e (omega (arith, r))

found-without_members : {A : Type 0} (key : A → ℤ) (test : A → Bool) (i : ℤ) (xs : List A) → AllByRecursion (λ x. int_eq (key x) i ≡ true → test x ≡ false) xs → find test (without_key key i xs) ≡ find test xs
found-without_members key test i [] others = refl
found-without_members {A} key test i (x ∷ xs) others = by_key (int_eq (key x) i) refl (found-without_members key test i xs others.1) where
  by_key : (t : Bool) → int_eq (key x) i ≡ t → find test (without_key key i xs) ≡ find test xs → find test (without_key key i (x ∷ xs)) ≡ find test (x ∷ xs)
  by_key true e rest = let out = others.0 e in rw (e, out) rest
  by_key false e rest = rw e (ap (cond (test x) (Some x)) rest)

-- ---- one rowid has one slot

pub one_slot : (parts : List Part) (places : PlaceMap) (entries : List Entry) (claim : Option RowPlace) → AreTied parts places entries claim → (c s d t : ℕ) (u v : UsedRow) →
    seen_at parts c s ≡ Some u → seen_at parts d t ≡ Some v → u.rowid ≡ v.rowid → (c ≡ d) × (s ≡ t)
one_slot parts places entries claim tied c s d t u v seen seen' same =
    let x = tied.entered c s u seen in
    let y = tied.entered d t v seen' in
    let e_same : Some x.0 ≡ Some y.0 = sym x.1.0 ∙ ap (λ i. entry_of i entries) same ∙ y.1.0 in
    let e_is : x.0 ≡ y.0 = cc in
    (sym x.1.1.0 ∙ ap (λ e. e.chunk) e_is ∙ y.1.1.0, sym x.1.1.1 ∙ ap (λ e. e.slot) e_is ∙ y.1.1.1)

-- ---- a row that is found

module _ (found : Rows) (after : Touches) (rowid : ℤ) (at : RowPlace)
    (free : AreTied found.parts found.places found.index None) where
  pub row-found : is_rising found.index ≡ true → (here : IsFoundRow found after rowid at) → (row : StoredRow) × (row_of rowid (seen_rows found) ≡ Some row)
  row-found rise here =
      let it = seen-row found.parts found.places found.index None free rise at.chunk at.slot here.used here.seen in (
        it.row,
        row_of-entry found.parts found.places found.index None free rise rowid
            ∙ ap (λ i. option_and_then (row_from found.parts found.places) (entry_of i found.index)) (sym here.same)
            ∙ ap (option_and_then (row_from found.parts found.places)) it.there ∙ it.gives,
      )

  -- rows of the rowid lie at the touched place alone
  pub only-there : (here : IsFoundRow found after rowid at) (c s : ℕ) → is_touched_place after c s ≡ false → AllByRecursion (λ r. int_eq (rowid_of r) rowid ≡ true → lies_at c s r ≡ false) (seen_rows found)
  only-there here c s out = all-picked (row_from found.parts found.places) (λ r. int_eq (rowid_of r) rowid ≡ true → lies_at c s r ≡ false) found.index (λ e r is own. not_here e r (row-told found.parts found.places e r is) own) where
    not_here : (e : Entry) (r : StoredRow) → IsRowOf found.parts found.places e r → int_eq (rowid_of r) rowid ≡ true → lies_at c s r ≡ false
    not_here e r told own = by_test (lies_at c s r) refl where
      by_test : (t : Bool) → lies_at c s r ≡ t → lies_at c s r ≡ false
      by_test false h = h
      by_test true h =
          let p = both_equal c r.chunk s r.slot h in
          let i_is : told.used.rowid ≡ here.used.rowid = told.own ∙ sym (ap (λ z. z.rowid) told.is) ∙ eq_from (rowid_of r) rowid own ∙ sym here.same in
          let q = one_slot found.parts found.places found.index None free e.chunk e.slot at.chunk at.slot told.used here.used told.seen here.seen i_is in
          let c_is : c ≡ at.chunk = p.0 ∙ ap (λ z. z.chunk) told.is ∙ q.0 in
          let s_is : s ≡ at.slot = p.1 ∙ ap (λ z. z.slot) told.is ∙ q.1 in
          let there : is_touched_place after c s ≡ true = ap (λ d. is_touched_place after d s) c_is ∙ ap (is_touched_place after at.chunk) s_is ∙ here.spot in
          let never : true ≡ false = sym there ∙ out in
          absurd cc

module _ (alike : Shape) (count : ℕ) (before after : Touches) (rows found : Rows) (parts : List Part) (rowid : ℤ) (at : RowPlace)
    (kept : IsKept alike count before.places.size rows) (old_parts : found.parts ≡ rows.parts)
    (tied : AreTied found.parts found.places found.index found.claim)
    (same : seen_rows found ≡ seen_rows rows) (sized : found.places.size ≡ rows.places.size) (wider : IsWider before after)
    (here : IsFoundRow found after rowid at) (rise : is_rising found.index ≡ true)
    (change : IsChangedAt at.chunk at.slot None found.parts parts) (shapes : KeepShapes found.parts parts) where
  free : AreTied found.parts found.places found.index None
  free = subst (AreTied found.parts found.places found.index) here.settled tied

  own_rowid : here.used.rowid ≡ at.rowid
  own_rowid = here.same ∙ sym here.own

  pub left-tied : AreTied parts found.places found.index (Some at)
  left-tied = dropped-tied found.parts parts found.places found.index at here.used free rise here.seen own_rowid change

  pub left-rows : rows_of parts found.places found.index ≡ without rowid (seen_rows rows)
  left-rows =
      dropped-rows found.parts parts found.places found.index at here.used free rise here.seen own_rowid change
      ∙ ap (λ i. without i (seen_rows found)) here.own ∙ ap (without rowid) same

  -- the row was there
  pub was-there : (row : StoredRow) × (row_of rowid (seen_rows rows) ≡ Some row)
  was-there = let it = row-found found after rowid at free rise here in (it.0, ap (row_of rowid) (sym same) ∙ it.1)

  rows_rise : keys_rise rowid_of (seen_rows rows) ≡ true
  rows_rise = ap (keys_rise rowid_of) (sym same) ∙ picked-rise entry_rowid rowid_of (row_from found.parts found.places) found.index (keeps found.parts found.places) (entries_rise found.index rise)

  pub one-less : length (without rowid (seen_rows rows)) + 1 ≡ count
  one-less = length-without rowid_of rowid (seen_rows rows) was-there.0 rows_rise was-there.1 ∙ sym kept.counted

  pub left-kept : (last : Rows) → last.parts ≡ parts → AreTied last.parts last.places last.index last.claim → seen_rows last ≡ rows_of parts found.places found.index → last.places.size ≡ found.places.size →
      IsKept alike (count - 1) after.places.size last
  left-kept last parts_is last_tied last_rows last_size =
      let n = one-less in
      let m = ap length (last_rows ∙ left-rows) in
      record {
        chunks = kept.chunks;
        cells = kept.cells;
        shapes = subst (ArePartsOf alike) (sym parts_is) (shapes alike (subst (ArePartsOf alike) (sym old_parts) kept.shapes));
        sized = last_size ∙ sized ∙ kept.sized;
        counted = omega (arith, n, m);
        touching = wider.places.size ∙ kept.touching;
        tied = last_tied;
      }

  elsewhere : (c s : ℕ) → is_touched_place after c s ≡ false → row_at (without rowid (seen_rows rows)) c s ≡ row_at (seen_rows rows) c s
  elsewhere c s out =
      found-without_members rowid_of (lies_at c s) rowid (seen_rows rows)
      (subst (AllByRecursion (λ r. int_eq (rowid_of r) rowid ≡ true → lies_at c s r ≡ false)) same (only-there found after rowid at free here c s out))

  abbrev state_before : StoreState
  state_before = record { size = alike.size; widths = alike.widths; kinds = alike.kinds; rows = seen_rows rows; touches = before }

  pub left-origin : (last : List StoredRow) → last ≡ rows_of parts found.places found.index → KeepsOrigin state_before (record { size = alike.size; widths = alike.widths; kinds = alike.kinds; rows = last; touches = after })
  left-origin last is = follows-removed state_before (record { size = alike.size; widths = alike.widths; kinds = alike.kinds; rows = last; touches = after }) rowid at.chunk at.slot wider here.row here.spot elsewhere (is ∙ left-rows)

-- where no element has the key, all stay
pub without-none : {A : Type 0} (key : A → ℤ) (i : ℤ) (xs : List A) → keyed_by key i xs ≡ None → without_key key i xs ≡ xs
without-none key i [] none = refl
without-none {A} key i (x ∷ xs) none = by_key (int_eq (key x) i) refl none (λ later. without-none key i xs later) where
  by_key : (t : Bool) → int_eq (key x) i ≡ t → cond t (Some x) (keyed_by key i xs) ≡ None → (keyed_by key i xs ≡ None → without_key key i xs ≡ xs) → without_key key i (x ∷ xs) ≡ x ∷ xs
  by_key true e h rest = absurd cc
  by_key false e h rest = rw e (ap (λ l. x ∷ l) (rest h))
