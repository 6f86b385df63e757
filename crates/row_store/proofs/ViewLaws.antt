-- What is found among the rows of a store, by the entries, the slots and the places.
use Rattle.std.proofs.Common.{◌≡◌, ℕ, ℤ, int_lt, Bool, true, false, cond, List, [], ◌∷◌, refl, sym, ap, ◌∙◌, arith, Some, None, subst}
use Rattle.std.specs.Prelude.{◌==◌, is_some}
use Rattle.std.specs.List.{AllByRecursion, filter_map, find, cons_option, slice_index_or}
use Rattle.std.specs.Option.{option_map, option_and_then}
use Rattle.std.specs.Ordering.{int_eq}
use Rattle.std.specs.declared.option.Option.{Option}
use Rattle.std.proofs.lemmas.Bool.{and_parts, cond-true, cond-false}
use Rattle.std.proofs.lemmas.Int.{ints}
use Rattle.vec_base.specs.declared.value.Value.{Value}
use Rattle.row_chunks.specs.RowSlots.{UsedRow}
use Rattle.row_index.specs.Entries.{entry_of, is_rising, has_id, is_text, rowid_of as entry_rowid_of}
use Rattle.row_index.specs.declared.entry.Entry.{Entry}
use Rattle.slot_alloc.specs.Places.{PlaceMap, IsPlaceMap, partition_at, partition_of_chunk, partition_in, partition_in_slot, chunk_with, is_used, has_chunk}
use Rattle.slot_alloc.specs.declared.chunk.Chunk.{Chunk}
use Rattle.row_store.specs.Keyed.{keys_rise, keyed_by}
use Rattle.row_store.specs.StoredRows.{StoredRow, rowid_of, row_of, row_at, row_with_id, has_text, first_in, lies_at, PlacesAre}
use Rattle.row_store.specs.declared.part.Part.{Part}
use Rattle.row_store.specs.declared.place.RowPlace.{RowPlace}
use Rattle.row_store.specs.inner.Parts.{seen_at}
use Rattle.row_store.specs.inner.Views.{row_from, rows_of, AreTied, values_or_none}
use Rattle.row_store.proofs.PickLaws.{picked-keyed, keyed-above}
use Rattle.row_store.proofs.TieLaws.{entry_rowid, keeps, entries_rise, entry-rowid, row_in-some, row_in-is, eq_from, eq_to, both_equal, same_place, some_is, number_is}

-- ---- lists

-- what holds of each element that is found by its key holds of all
pub all-members : {A : Type 0} (key : A → ℤ) (P : A → Type 0) (xs : List A) → keys_rise key xs ≡ true → ((x : A) → keyed_by key (key x) xs ≡ Some x → P x) → AllByRecursion P xs
all-members key P [] rise each = tt
all-members {A} key P (x ∷ xs) rise each = (each x (cond-true _ _ _ (eq_to (key x) (key x) refl)), all-members key P xs (and_parts _ _ rise).1 later) where
  later : (y : A) → keyed_by key (key y) xs ≡ Some y → P y
  later y there = each y (cond-false _ _ _ (apart (key x) (key y) (keyed-above key (key x) (key y) xs y (and_parts _ _ rise).0 there)) ∙ there) where
    apart : (a b : ℤ) → int_lt a b ≡ true → int_eq a b ≡ false
    apart a b h = grind (arith, ints)

pub find-picked_none : {E R : Type 0} (pick : E → Option R) (test : R → Bool) (xs : List E) → ((x : E) (r : R) → pick x ≡ Some r → test r ≡ false) → find test (filter_map pick xs) ≡ None
find-picked_none pick test [] other = refl
find-picked_none {E} {R} pick test (x ∷ xs) other = by_pick (pick x) refl (find-picked_none pick test xs other) where
  by_pick : (o : Option R) → pick x ≡ o → find test (filter_map pick xs) ≡ None → find test (cons_option o (filter_map pick xs)) ≡ None
  by_pick None is rest = rest
  by_pick (Some r) is rest = cond-false _ _ _ (other x r is) ∙ rest

-- where all that a test holds of is one thing, and it is given, it is found
pub find-picked_only : {E R : Type 0} (key : E → ℤ) (pick : E → Option R) (test : R → Bool) (i : ℤ) (xs : List E) (e : E) (r : R) → keyed_by key i xs ≡ Some e → pick e ≡ Some r → test r ≡ true →
    AllByRecursion (λ x. (q : R) → pick x ≡ Some q → test q ≡ true → q ≡ r) xs → find test (filter_map pick xs) ≡ Some r
find-picked_only key pick test i [] e r there gives holds only = absurd cc
find-picked_only {E} {R} key pick test i (x ∷ xs) e r there gives holds only =
    by_pick (pick x) refl (λ other. find-picked_only key pick test i xs e r (sym (cond-false _ _ _ other) ∙ there) gives holds only.1)
  where
    same : int_eq (key x) i ≡ true → x ≡ e
    same here = let s : Some x ≡ Some e = sym (cond-true _ _ _ here) ∙ there in cc

    none_here : pick x ≡ None → (int_eq (key x) i ≡ false → find test (filter_map pick xs) ≡ Some r) → (t : Bool) → int_eq (key x) i ≡ t → find test (filter_map pick xs) ≡ Some r
    none_here is rest true here = let never : None ≡ Some r = sym is ∙ ap pick (same here) ∙ gives in absurd cc
    none_here is rest false other = rest other

    not_here : (q : R) → pick x ≡ Some q → test q ≡ false → (int_eq (key x) i ≡ false → find test (filter_map pick xs) ≡ Some r) → (t : Bool) → int_eq (key x) i ≡ t → find test (filter_map pick xs) ≡ Some r
    not_here q is h rest true here =
        let s : Some q ≡ Some r = sym is ∙ ap pick (same here) ∙ gives in
        let q_is : q ≡ r = cc in
        let never : false ≡ true = sym h ∙ ap test q_is ∙ holds in
        absurd cc
    not_here q is h rest false other = rest other

    by_test : (q : R) → pick x ≡ Some q → (int_eq (key x) i ≡ false → find test (filter_map pick xs) ≡ Some r) → (t : Bool) → test q ≡ t → cond t (Some q) (find test (filter_map pick xs)) ≡ Some r
    by_test q is rest true h = ap Some (only.0 q is h)
    by_test q is rest false h = not_here q is h rest (int_eq (key x) i) refl

    by_pick : (o : Option R) → pick x ≡ o → (int_eq (key x) i ≡ false → find test (filter_map pick xs) ≡ Some r) → find test (cons_option o (filter_map pick xs)) ≡ Some r
    by_pick None is rest = none_here is rest (int_eq (key x) i) refl
    by_pick (Some q) is rest = by_test q is rest (test q) refl

-- what holds of all that is picked holds of what is found
pub found-such : {R : Type 0} (P : R → Type 0) (test : R → Bool) (rs : List R) (r : R) → AllByRecursion P rs → find test rs ≡ Some r → P r × (test r ≡ true)
found-such P test [] r all is = absurd cc
found-such {R} P test (x ∷ xs) r all is = by_test (test x) refl is (λ later. found-such P test xs r all.1 later) where
  by_test : (t : Bool) → test x ≡ t → cond t (Some x) (find test xs) ≡ Some r → (find test xs ≡ Some r → P r × (test r ≡ true)) → P r × (test r ≡ true)
  by_test true h same rest = let s : x ≡ r = cc in (subst P s all.0, ap test (sym s) ∙ h)
  by_test false h later rest = rest later

pub all-picked : {E R : Type 0} (pick : E → Option R) (P : R → Type 0) (xs : List E) → ((x : E) (r : R) → pick x ≡ Some r → P r) → AllByRecursion P (filter_map pick xs)
all-picked pick P [] each = tt
all-picked {E} {R} pick P (x ∷ xs) each = by_pick (pick x) refl (all-picked pick P xs each) where
  by_pick : (o : Option R) → pick x ≡ o → AllByRecursion P (filter_map pick xs) → AllByRecursion P (cons_option o (filter_map pick xs))
  by_pick None is rest = rest
  by_pick (Some r) is rest = (each x r is, rest)

pub find-none_such : {R : Type 0} (test : R → Bool) (rs : List R) → AllByRecursion (λ r. test r ≡ false) rs → find test rs ≡ None
find-none_such test [] all = refl
find-none_such test (r ∷ rs) all = cond-false _ _ _ all.0 ∙ find-none_such test rs all.1

-- ---- rows

-- what a row of an entry is
pub record IsRowOf (parts : List Part) (places : PlaceMap) (e : Entry) (r : StoredRow) : Type 0 where
  pub used : UsedRow
  pub seen : seen_at parts e.chunk e.slot ≡ Some used
  pub own : used.rowid ≡ e.rowid
  pub is : r ≡ record { rowid = e.rowid; chunk = e.chunk; slot = e.slot; id = e.id; partition = values_or_none (partition_of_chunk places e.chunk); vectors = used.vectors; cells = used.cells }

pub row-told : (parts : List Part) (places : PlaceMap) (e : Entry) (r : StoredRow) → row_from parts places e ≡ Some r → IsRowOf parts places e r
row-told parts places e r is =
    let s = row_in-some (partition_of_chunk places e.chunk) e (seen_at parts e.chunk e.slot) (ap is_some is) in
    let given = row_in-is (partition_of_chunk places e.chunk) e (seen_at parts e.chunk e.slot) s.0 s.1.0 s.1.1 in
    let same : Some r ≡ Some (record { rowid = e.rowid; chunk = e.chunk; slot = e.slot; id = e.id; partition = values_or_none (partition_of_chunk places e.chunk); vectors = s.0.vectors; cells = s.0.cells }) = sym is ∙ given in
    record { used = s.0; seen = s.1.0; own = s.1.1; is = some_same r _ same } where
      some_same : (a b : StoredRow) → Some a ≡ Some b → a ≡ b
      some_same a b e = cc

abbrev row_made : PlaceMap → ℤ → ℕ → ℕ → Option (List ℕ) → UsedRow → StoredRow
row_made places i c s id used = record { rowid = i; chunk = c; slot = s; id = id; partition = values_or_none (partition_of_chunk places c); vectors = used.vectors; cells = used.cells }

same_row : (places : PlaceMap) (used : UsedRow) (e : Entry) (c s : ℕ) → used.rowid ≡ e.rowid → e.chunk ≡ c → e.slot ≡ s →
    row_made places e.rowid e.chunk e.slot e.id used ≡ row_made places used.rowid c s e.id used
same_row places used e c s own chunk slot = rw (own, chunk, slot) refl

module _ (parts : List Part) (places : PlaceMap) (entries : List Entry) (claim : Option RowPlace)
    (tied : AreTied parts places entries claim) (rise : is_rising entries ≡ true) where
  -- the row of a rowid
  pub row_of-entry : (i : ℤ) → row_of i (rows_of parts places entries) ≡ option_and_then (row_from parts places) (entry_of i entries)
  row_of-entry i = picked-keyed entry_rowid rowid_of (row_from parts places) i entries (keeps parts places) (entries_rise entries rise)

  -- the row of a used slot
  pub record IsSeenRow (c s : ℕ) (used : UsedRow) : Type 0 where
    pub entry : Entry
    pub there : entry_of used.rowid entries ≡ Some entry
    pub chunk : entry.chunk ≡ c
    pub slot : entry.slot ≡ s
    pub row : StoredRow
    pub gives : row_from parts places entry ≡ Some row
    pub is : row ≡ record { rowid = used.rowid; chunk = c; slot = s; id = entry.id; partition = values_or_none (partition_of_chunk places c); vectors = used.vectors; cells = used.cells }

  pub seen-row : (c s : ℕ) (used : UsedRow) → seen_at parts c s ≡ Some used → IsSeenRow c s used
  seen-row c s used seen =
      let found = tied.entered c s used seen in
      let e = found.0 in
      let own : used.rowid ≡ e.rowid = sym (eq_from e.rowid used.rowid (entry-rowid used.rowid entries e found.1.0)) in
      let seen_e : seen_at parts e.chunk e.slot ≡ Some used = ap (λ d. seen_at parts d e.slot) found.1.1.0 ∙ ap (seen_at parts c) found.1.1.1 ∙ seen in
      record {
        entry = e;
        there = found.1.0;
        chunk = found.1.1.0;
        slot = found.1.1.1;
        row = record { rowid = e.rowid; chunk = e.chunk; slot = e.slot; id = e.id; partition = values_or_none (partition_of_chunk places e.chunk); vectors = used.vectors; cells = used.cells };
        gives = row_in-is (partition_of_chunk places e.chunk) e (seen_at parts e.chunk e.slot) used seen_e own;
        is = same_row places used e c s own found.1.1.0 found.1.1.1;
      }

  pub row_at-none : (c s : ℕ) → seen_at parts c s ≡ None → row_at (rows_of parts places entries) c s ≡ None
  row_at-none c s none = find-picked_none (row_from parts places) (lies_at c s) entries (λ e r is. other e r (row-told parts places e r is) (lies_at c s r) refl) where
    other : (e : Entry) (r : StoredRow) → IsRowOf parts places e r → (t : Bool) → lies_at c s r ≡ t → lies_at c s r ≡ false
    other e r told false h = h
    other e r told true h =
        let p = both_equal c r.chunk s r.slot h in
        let c_is : c ≡ e.chunk = p.0 ∙ ap (λ q. q.chunk) told.is in
        let s_is : s ≡ e.slot = p.1 ∙ ap (λ q. q.slot) told.is in
        let never : None ≡ Some told.used = sym none ∙ rw (c_is, s_is) told.seen in
        absurd cc

  pub row_at-seen : (c s : ℕ) (used : UsedRow) (seen : seen_at parts c s ≡ Some used) → row_at (rows_of parts places entries) c s ≡ Some (seen-row c s used seen).row
  row_at-seen c s used seen =
      let it = seen-row c s used seen in
      find-picked_only entry_rowid (row_from parts places) (lies_at c s) used.rowid entries it.entry it.row it.there it.gives (rw it.is (same_place c s))
      (all-members entry_rowid (λ x. (q : StoredRow) → row_from parts places x ≡ Some q → lies_at c s q ≡ true → q ≡ it.row) entries (entries_rise entries rise) (λ x there q is h. one x there q (row-told parts places x q is) is h))
    where
      one : (x : Entry) → keyed_by entry_rowid x.rowid entries ≡ Some x → (q : StoredRow) → IsRowOf parts places x q → row_from parts places x ≡ Some q → lies_at c s q ≡ true → q ≡ (seen-row c s used seen).row
      one x there q told is h =
          let it = seen-row c s used seen in
          let p = both_equal c q.chunk s q.slot h in
          let c_is : c ≡ x.chunk = p.0 ∙ ap (λ z. z.chunk) told.is in
          let s_is : s ≡ x.slot = p.1 ∙ ap (λ z. z.slot) told.is in
          let seen_x : seen_at parts c s ≡ Some told.used = rw (c_is, s_is) told.seen in
          let same : Some told.used ≡ Some used = sym seen_x ∙ seen in
          let u_is : told.used ≡ used = cc in
          let i_is : x.rowid ≡ used.rowid = sym told.own ∙ ap (λ u. u.rowid) u_is in
          let e_same : Some x ≡ Some it.entry = sym there ∙ ap (λ i. entry_of i entries) i_is ∙ it.there in
          let x_is : x ≡ it.entry = cc in
          let r_same : Some q ≡ Some it.row = sym is ∙ ap (row_from parts places) x_is ∙ it.gives in
          cc

-- ---- the places of the rows

pub at-used : (places : PlaceMap) (c s : ℕ) → is_used places c s ≡ true → (values : List Value) × ((partition_at places c s ≡ Some values) × (partition_of_chunk places c ≡ Some values))
at-used places c s used = by_chunk (chunk_with places.chunks c) used where
  by_chunk : (o : Option Chunk) → is_some (partition_in_slot o s) ≡ true → (values : List Value) × ((partition_in_slot o s ≡ Some values) × (partition_in o ≡ Some values))
  by_chunk None h = absurd cc
  by_chunk (Some x) h = by_slot (slice_index_or x.used s false) h where
    by_slot : (t : Bool) → is_some {T = List Value} (cond t (Some x.partition) None) ≡ true → (values : List Value) × ((cond t (Some x.partition) None ≡ Some values) × (Some x.partition ≡ Some values))
    by_slot true h = (x.partition, (refl, refl))
    by_slot false h = absurd cc

pub none_is : {A : Type 0} (o : Option A) → is_some o ≡ false → o ≡ None
none_is None h = refl
none_is (Some x) h = absurd cc

-- where one test holds of what another finds, it finds something too
pub find-weaker : {R : Type 0} (test weaker : R → Bool) (rs : List R) (r : R) → ((x : R) → test x ≡ true → weaker x ≡ true) → find test rs ≡ Some r → is_some (find weaker rs) ≡ true
find-weaker test weaker [] r implies is = absurd cc
find-weaker {R} test weaker (x ∷ xs) r implies is = by_weaker (weaker x) refl (λ later. find-weaker test weaker xs r implies later) where
  by_weaker : (t : Bool) → weaker x ≡ t → (find test xs ≡ Some r → is_some (find weaker xs) ≡ true) → is_some (cond t (Some x) (find weaker xs)) ≡ true
  by_weaker true w rest = refl
  by_weaker false w rest = rest (sym (cond-false _ _ _ (stronger (test x) refl)) ∙ is) where
    stronger : (t : Bool) → test x ≡ t → test x ≡ false
    stronger false h = h
    stronger true h = let never : true ≡ false = sym (implies x h) ∙ w in absurd cc

module _ (parts : List Part) (places : PlaceMap) (entries : List Entry)
    (tied : AreTied parts places entries None) (rise : is_rising entries ≡ true) (known : IsPlaceMap places) where
  -- each row has the partition values of its chunk
  pub row-values : AllByRecursion (λ r. partition_of_chunk places r.chunk ≡ Some r.partition) (rows_of parts places entries)
  row-values = all-picked (row_from parts places) (λ r. partition_of_chunk places r.chunk ≡ Some r.partition) entries (λ e r is. values e r (row-told parts places e r is)) where
    values : (e : Entry) (r : StoredRow) → IsRowOf parts places e r → partition_of_chunk places r.chunk ≡ Some r.partition
    values e r told =
        let u = at-used places e.chunk e.slot (tied.placed e.chunk e.slot (ap is_some told.seen)) in
        let c_is : r.chunk ≡ e.chunk = ap (λ z. z.chunk) told.is in
        let p_is : r.partition ≡ values_or_none (partition_of_chunk places e.chunk) = ap (λ z. z.partition) told.is in
        ap (partition_of_chunk places) c_is ∙ u.1.1 ∙ ap Some (sym (p_is ∙ ap values_or_none u.1.1))

  used_place : (c s : ℕ) → partition_at places c s ≡ option_map (λ row. row.partition) (row_at (rows_of parts places entries) c s)
  used_place c s = by_slot (seen_at parts c s) refl where
    by_slot : (o : Option UsedRow) → seen_at parts c s ≡ o → partition_at places c s ≡ option_map (λ row. row.partition) (row_at (rows_of parts places entries) c s)
    by_slot None is =
        let free : is_used places c s ≡ false = by_use (is_used places c s) refl in
        none_is (partition_at places c s) free ∙ sym (ap (option_map (λ row. row.partition)) (row_at-none parts places entries None tied rise c s is))
      where
        by_use : (t : Bool) → is_used places c s ≡ t → t ≡ false
        by_use false h = refl
        by_use true h = let never : false ≡ true = sym (ap is_some is) ∙ tied.used c s h refl in absurd cc
    by_slot (Some used) is =
        let it = seen-row parts places entries None tied rise c s used is in
        let u = at-used places c s (tied.placed c s (ap is_some is)) in
        let p_is : it.row.partition ≡ values_or_none (partition_of_chunk places c) = ap (λ z. z.partition) it.is in
        u.1.0 ∙ ap Some (sym (p_is ∙ ap values_or_none u.1.1)) ∙ sym (ap (option_map (λ row. row.partition)) (row_at-seen parts places entries None tied rise c s used is))

  used_chunk : (c : ℕ) → partition_of_chunk places c ≡ option_map (λ row. row.partition) (first_in (rows_of parts places entries) c)
  used_chunk c = by_first (first_in (rows_of parts places entries) c) refl where
    by_first : (o : Option StoredRow) → first_in (rows_of parts places entries) c ≡ o → partition_of_chunk places c ≡ option_map (λ row. row.partition) o
    by_first (Some r) is =
        let f = found-such (λ q. partition_of_chunk places q.chunk ≡ Some q.partition) (λ q. c == q.chunk) (rows_of parts places entries) r row-values is in
        ap (partition_of_chunk places) (number_is c r.chunk f.1) ∙ f.0
    by_first None is = by_chunk (has_chunk places c) refl where
      by_chunk : (t : Bool) → has_chunk places c ≡ t → partition_of_chunk places c ≡ None
      by_chunk false h = none_is (partition_of_chunk places c) h
      by_chunk true h =
          let s = known.occupied c h in
          let seen = some_is (seen_at parts c s.0) (tied.used c s.0 s.1 refl) in
          let some_in = find-weaker (lies_at c s.0) (λ q. c == q.chunk) (rows_of parts places entries) _ (λ q at. (and_parts _ _ at).0) (row_at-seen parts places entries None tied rise c s.0 seen.0 seen.1) in
          let never : false ≡ true = sym (ap is_some is) ∙ some_in in
          absurd cc

  pub are-places : PlacesAre places.size (rows_of parts places entries) places
  are-places = record { size = refl; used = used_place; chunks = used_chunk }

-- ---- what is new

module _ (parts : List Part) (places : PlaceMap) (entries : List Entry)
    (tied : AreTied parts places entries None) (rise : is_rising entries ≡ true) where
  -- a rowid without a row has no entry, and no slot
  pub new-entry : (i : ℤ) → row_of i (rows_of parts places entries) ≡ None → entry_of i entries ≡ None
  new-entry i none = by_entry (entry_of i entries) refl where
    by_entry : (o : Option Entry) → entry_of i entries ≡ o → o ≡ None
    by_entry None is = refl
    by_entry (Some e) is =
        let gone : row_from parts places e ≡ None = sym (ap (option_and_then (row_from parts places)) is) ∙ sym (row_of-entry parts places entries None tied rise i) ∙ none in
        let never : false ≡ true = sym (ap is_some gone) ∙ tied.held i e is refl in
        absurd cc

  pub new-slot : (i : ℤ) → row_of i (rows_of parts places entries) ≡ None → (c s : ℕ) (used : UsedRow) → seen_at parts c s ≡ Some used → int_eq i used.rowid ≡ false
  new-slot i none c s used seen = by_test (int_eq i used.rowid) refl where
    by_test : (t : Bool) → int_eq i used.rowid ≡ t → int_eq i used.rowid ≡ false
    by_test false h = h
    by_test true h =
        let found = tied.entered c s used seen in
        let never : None ≡ Some found.0 = sym (new-entry i none) ∙ ap (λ j. entry_of j entries) (eq_from i used.rowid h) ∙ found.1.0 in
        absurd cc

-- what holds of all that is picked holds of what an element gives
pub picked-such : {E R : Type 0} (key : E → ℤ) (pick : E → Option R) (P : R → Type 0) (i : ℤ) (xs : List E) (e : E) (r : R) → keyed_by key i xs ≡ Some e → pick e ≡ Some r → AllByRecursion P (filter_map pick xs) → P r
picked-such key pick P i [] e r there gives all = absurd cc
picked-such {E} {R} key pick P i (x ∷ xs) e r there gives all =
    by_key (int_eq (key x) i) refl (pick x) refl all (λ later rest. picked-such key pick P i xs e r later gives rest)
  where
    by_key : (t : Bool) → int_eq (key x) i ≡ t → (o : Option R) → pick x ≡ o → AllByRecursion P (cons_option o (filter_map pick xs)) → (keyed_by key i xs ≡ Some e → AllByRecursion P (filter_map pick xs) → P r) → P r
    by_key true here None is all rest =
        let x_same : Some x ≡ Some e = sym (cond-true _ _ _ here) ∙ there in
        let x_is : x ≡ e = cc in
        let never : None ≡ Some r = sym is ∙ ap pick x_is ∙ gives in
        absurd cc
    by_key true here (Some q) is all rest =
        let x_same : Some x ≡ Some e = sym (cond-true _ _ _ here) ∙ there in
        let x_is : x ≡ e = cc in
        let q_same : Some q ≡ Some r = sym is ∙ ap pick x_is ∙ gives in
        let q_is : q ≡ r = cc in
        subst P q_is all.0
    by_key false other None is all rest = rest (sym (cond-false _ _ _ other) ∙ there) all
    by_key false other (Some q) is all rest = rest (sym (cond-false _ _ _ other) ∙ there) all.1

none-all : {R : Type 0} (test : R → Bool) (rs : List R) → find test rs ≡ None → AllByRecursion (λ r. test r ≡ false) rs
none-all test [] is = tt
none-all {R} test (r ∷ rs) is = by_test (test r) refl is (λ later. none-all test rs later) where
  by_test : (t : Bool) → test r ≡ t → cond t (Some r) (find test rs) ≡ None → (find test rs ≡ None → AllByRecursion (λ x. test x ≡ false) rs) → (test r ≡ false) × AllByRecursion (λ x. test x ≡ false) rs
  by_test true e h rest = absurd cc
  by_test false e h rest = (e, rest h)

module _ (parts : List Part) (places : PlaceMap) (entries : List Entry)
    (tied : AreTied parts places entries None) (rise : is_rising entries ≡ true) where
  -- an id without a row has no entry
  pub new-id : (text : List ℕ) → row_with_id text (rows_of parts places entries) ≡ None → entry_rowid_of text entries ≡ None
  new-id text none = ap (option_map (λ e. e.rowid)) (find-none_such (has_id text) entries (all-members entry_rowid (λ e. has_id text e ≡ false) entries (entries_rise entries rise) each)) where
    each : (e : Entry) → keyed_by entry_rowid e.rowid entries ≡ Some e → has_id text e ≡ false
    each e there =
        let r = some_is (row_from parts places e) (tied.held e.rowid e there refl) in
        let told = row-told parts places e r.0 r.1 in
        let id_is : r.0.id ≡ e.id = ap (λ q. q.id) told.is in
        let out : has_text text r.0.id ≡ false = picked-such entry_rowid (row_from parts places) (λ row. has_text text row.id ≡ false) e.rowid entries e r.0 there r.1 (none-all (λ row. has_text text row.id) (rows_of parts places entries) none) in
        same_test text e.id ∙ ap (has_text text) (sym id_is) ∙ out
      where
        same_test : (t : List ℕ) (id : Option (List ℕ)) → is_text t id ≡ has_text t id
        same_test t None = refl
        same_test t (Some x) = refl
