-- What is read of the rows of a store: the next one, the one of an id or a rowid, and those of a chunk.
use Rattle.std.proofs.Common.{◌≡◌, ℕ, ℤ, zero, suc, ◌<◌, ◌^◌, int_lt, Bool, true, false, not, cond, List, [], ◌∷◌, length, refl, sym, ap, ◌∙◌, arith, subst, Some, None, Bor}
use Rattle.std.specs.Prelude.{map, ◌==◌, is_some, bytes_eq, slice_index_or, MatchOption, IfSome, option_copied}
use Rattle.std.specs.List.{AllByRecursion, AllPairs, find, list_any, cons_option}
use Rattle.std.specs.Option.{option_map, option_and_then}
use Rattle.std.specs.Ordering.{int_eq}
use Rattle.std.specs.declared.option.Option.{Option}
use Rattle.std.proofs.lemmas.Bool.{and_parts, cond-false}
use Rattle.std.proofs.lemmas.Int.{ints}
use Rattle.std.proofs.lemmas.Slice.Eq.{bytes_eq-Decides}
use Rattle.vec_base.specs.declared.value.Value.{Value}
use Rattle.row_chunks.specs.RowSlots.{RowSlots, UsedRow, slot_at, vectors_in, cells_in}
use Rattle.row_index.specs.Entries.{entry_of, is_rising, next_after, is_behind, has_id, is_text, is_same_id, have_own_ids, place_of, id_of, rowid_of as rowid_with}
use Rattle.row_index.specs.declared.entry.Entry.{Entry}
use Rattle.slot_alloc.specs.Places.{PlaceMap, IsPlaceMap, partition_of_chunk, is_used}
use Rattle.row_store.specs.Keyed.{keys_rise}
use Rattle.row_store.specs.Shown.{held_of}
use Rattle.row_store.specs.StoredRows.{StoredRow, rowid_of, row_of, row_at, first_in, lies_at, row_with_id, has_text, next_row, is_above}
use Rattle.row_store.specs.declared.part.Part.{Part}
use Rattle.row_store.specs.declared.shape.Shape.{Shape}
use Rattle.row_store.specs.declared.place.RowPlace.{RowPlace}
use Rattle.row_store.specs.inner.Parts.{part_of, slots_of, seen_at, seen_in, HasShape, ArePartsOf}
use Rattle.row_store.specs.inner.Views.{row_from, rows_of, is_claimed_rowid, AreTied, values_or_none}
use Rattle.row_store.proofs.PartLaws.{part_of-number}
use Rattle.row_store.proofs.PickLaws.{picked-rise}
use Rattle.row_store.proofs.SearchLaws.{IsSameTest, find-picked_nowhere, find-picked_first, find-picked_above, found-keyed, found-test, mapped-some, mapped-none, any-none, pairs-by_key}
use Rattle.row_store.proofs.TieLaws.{entry_rowid, keeps, entries_rise, entry-rowid, eq_from, some_is, number_is, chunk_used}
use Rattle.row_store.proofs.ViewLaws.{IsRowOf, row-told, row_of-entry, seen-row, row_at-none, row_at-seen, all-picked, found-such, find-weaker, none_is, at-used}

lt_not_same : (a b : ℤ) → int_lt a b ≡ true → int_eq a b ≡ false
lt_not_same a b h = grind (arith, ints)

lt_on : (a b c : ℤ) → int_lt b c ≡ true → int_lt a b ≡ true → int_lt a c ≡ true
lt_on a b c h k = grind (arith, ints)

-- ---- tests of rows and of entries

above_same : (parts : List Part) (places : PlaceMap) (after : Option ℤ) → IsSameTest (row_from parts places) (λ e. is_behind after e.rowid) (λ r. is_above after r.rowid)
above_same parts places None e r is = refl
above_same parts places (Some after) e r is = ap (int_lt after) (keeps parts places e r is)

text_same : (parts : List Part) (places : PlaceMap) (id : List ℕ) → IsSameTest (row_from parts places) (has_id id) (λ r. has_text id r.id)
text_same parts places id e r is = ap (λ q. has_text id q.id) (row-told parts places e r is).is ∙ by_id e.id where
  by_id : (o : Option (List ℕ)) → has_text id o ≡ is_text id o
  by_id None = refl
  by_id (Some text) = refl

-- where an entry with an id gives no row, no row has the id
own_id : (parts : List Part) (places : PlaceMap) (id : List ℕ) (es : List Entry) (e : Entry) → have_own_ids es ≡ true → find (has_id id) es ≡ Some e → row_from parts places e ≡ None → row_with_id id (rows_of parts places es) ≡ None
own_id parts places id [] e own is none = absurd cc
own_id parts places id (x ∷ xs) e own is none = by_test (has_id id x) refl is (λ later. own_id parts places id xs e (and_parts _ _ own).1 later none) where
  none_behind : has_id id x ≡ true → find (has_id id) xs ≡ None
  none_behind h = by_id x.id refl (and_parts _ _ own).0 where
    not_true : (b : Bool) → not b ≡ true → b ≡ false
    not_true false h = refl
    not_true true h = absurd cc

    by_id : (o : Option (List ℕ)) → x.id ≡ o → not (list_any (is_same_id o) xs) ≡ true → find (has_id id) xs ≡ None
    by_id None at others = let never : false ≡ true = ap (is_text id) (sym at) ∙ h in absurd cc
    by_id (Some text) at others =
        let equal : bytes_eq text id ≡ true = ap (is_text id) (sym at) ∙ h in
        let same : text ≡ id = (bytes_eq-Decides text id).0 equal in
        any-none (has_id id) xs (ap (λ t. list_any (has_id t) xs) (sym same) ∙ not_true _ others)

  by_pick : has_id id x ≡ false → row_with_id id (rows_of parts places xs) ≡ None → (o : Option StoredRow) → row_from parts places x ≡ o → find (λ r. has_text id r.id) (cons_option o (rows_of parts places xs)) ≡ None
  by_pick f rest None at = rest
  by_pick f rest (Some r) at = cond-false _ _ _ (text_same parts places id x r at ∙ f) ∙ rest

  by_test : (b : Bool) → has_id id x ≡ b → cond b (Some x) (find (has_id id) xs) ≡ Some e → (find (has_id id) xs ≡ Some e → row_with_id id (rows_of parts places xs) ≡ None) → row_with_id id (rows_of parts places (x ∷ xs)) ≡ None
  by_test true h same rest =
      let x_is : x ≡ e = cc in
      let gone : row_from parts places x ≡ None = ap (row_from parts places) x_is ∙ none in
      rw gone (find-picked_nowhere (row_from parts places) (has_id id) (λ r. has_text id r.id) xs (text_same parts places id) (none_behind h))
  by_test false h later rest = by_pick h (rest later) (row_from parts places x) refl

-- ---- one row

seen_like : (parts : List Part) (c d s t : ℕ) (o : Option UsedRow) → c ≡ d → s ≡ t → seen_at parts d t ≡ o → seen_at parts c s ≡ o
seen_like parts c d s t o p q h = rw (p, q) h

abbrev row_made : ℤ → ℕ → ℕ → Option (List ℕ) → List Value → List (List ℕ) → List Value → StoredRow
row_made i c s id values vectors cells = record { rowid = i; chunk = c; slot = s; id = id; partition = values; vectors = vectors; cells = cells }

module _ (parts : List Part) (places : PlaceMap) (entries : List Entry) (claim : Option RowPlace)
    (tied : AreTied parts places entries claim) (rise : is_rising entries ≡ true) where
  -- the entry of a claim has no row
  claim-none : (i : ℤ) (e : Entry) → entry_of i entries ≡ Some e → is_claimed_rowid claim i ≡ true → row_from parts places e ≡ None
  claim-none i e there own = by_row (row_from parts places e) refl where
    by_row : (o : Option StoredRow) → row_from parts places e ≡ o → o ≡ None
    by_row None is = refl
    by_row (Some r) is =
        let told = row-told parts places e r is in
        let i_is : told.used.rowid ≡ i = told.own ∙ eq_from e.rowid i (entry-rowid i entries e there) in
        let never : false ≡ true = sym (tied.absent e.chunk e.slot told.used told.seen) ∙ ap (is_claimed_rowid claim) i_is ∙ own in
        absurd cc

  has-row : (i : ℤ) (e : Entry) → entry_of i entries ≡ Some e → is_claimed_rowid claim i ≡ false → (r : StoredRow) × (row_from parts places e ≡ Some r)
  has-row i e there other = some_is (row_from parts places e) (tied.held i e there other)

  pub next-nowhere : (after : Option ℤ) → next_after after entries ≡ None → next_row after (rows_of parts places entries) ≡ None
  next-nowhere after none = find-picked_nowhere (row_from parts places) (λ e. is_behind after e.rowid) (λ r. is_above after r.rowid) entries (above_same parts places after) (mapped-none (λ e. e.rowid) _ none)

  pub next-first : (after : Option ℤ) (i : ℤ) → next_after after entries ≡ Some i → is_claimed_rowid claim i ≡ false → option_map rowid_of (next_row after (rows_of parts places entries)) ≡ Some i
  next-first after i is other =
      let m = mapped-some (λ e. e.rowid) _ i is in
      let there : entry_of i entries ≡ Some m.0 = ap (λ j. entry_of j entries) (sym m.1.1) ∙ found-keyed entry_rowid (λ e. is_behind after e.rowid) entries m.0 (entries_rise entries rise) m.1.0 in
      let r = has-row i m.0 there other in
      ap (option_map rowid_of) (find-picked_first (row_from parts places) (λ e. is_behind after e.rowid) (λ q. is_above after q.rowid) entries m.0 r.0 (above_same parts places after) m.1.0 r.1)
      ∙ ap Some (keeps parts places m.0 r.0 r.1 ∙ m.1.1)

  pub next-claimed : (after : Option ℤ) (i : ℤ) → next_after after entries ≡ Some i → is_claimed_rowid claim i ≡ true → next_row after (rows_of parts places entries) ≡ next_row (Some i) (rows_of parts places entries)
  next-claimed after i is own = by_after after is where
    gone : (e : Entry) → entry_of i entries ≡ Some e → row_from parts places e ≡ None
    gone e there = claim-none i e there own

    skipped : (t : ℤ → Bool) → ((a b : ℤ) → int_lt a b ≡ true → t a ≡ true → t b ≡ true) → (m : (e : Entry) × ((find (λ e. t e.rowid) entries ≡ Some e) × (e.rowid ≡ i))) →
        find (λ r. t r.rowid) (rows_of parts places entries) ≡ next_row (Some i) (rows_of parts places entries)
    skipped t up m =
        let there : entry_of i entries ≡ Some m.0 = ap (λ j. entry_of j entries) (sym m.1.1) ∙ found-keyed entry_rowid (λ e. t e.rowid) entries m.0 (entries_rise entries rise) m.1.0 in
        find-picked_above entry_rowid rowid_of (row_from parts places) t entries m.0 (keeps parts places) (entries_rise entries rise) up m.1.0 (gone m.0 there)
        ∙ ap (λ j. next_row (Some j) (rows_of parts places entries)) m.1.1

    by_after : (o : Option ℤ) → next_after o entries ≡ Some i → next_row o (rows_of parts places entries) ≡ next_row (Some i) (rows_of parts places entries)
    by_after None found = skipped (λ j. true) (λ a b lt h. refl) (mapped-some (λ e. e.rowid) _ i found)
    by_after (Some after) found = skipped (int_lt after) (λ a b lt h. lt_on after a b lt h) (mapped-some (λ e. e.rowid) _ i found)

  -- behind the claim comes a row
  pub next-behind : (i : ℤ) → is_claimed_rowid claim i ≡ true → next_after (Some i) entries ≡ option_map rowid_of (next_row (Some i) (rows_of parts places entries))
  next-behind i own = by_next (next_after (Some i) entries) refl where
    other : (c : Option RowPlace) (j : ℤ) → int_lt i j ≡ true → is_claimed_rowid c i ≡ true → is_claimed_rowid c j ≡ false
    other None j lt h = refl
    other (Some place) j lt h = apart place.rowid i j lt h where
      apart : (a b d : ℤ) → int_lt b d ≡ true → int_eq a b ≡ true → int_eq a d ≡ false
      apart a b d lt h = grind (arith, ints)

    by_next : (o : Option ℤ) → next_after (Some i) entries ≡ o → o ≡ option_map rowid_of (next_row (Some i) (rows_of parts places entries))
    by_next None is = sym (ap (option_map rowid_of) (next-nowhere (Some i) is))
    by_next (Some j) is =
        let m = mapped-some (λ e. e.rowid) _ j is in
        let lt : int_lt i j ≡ true = ap (int_lt i) (sym m.1.1) ∙ found-test (λ e. int_lt i e.rowid) entries m.0 m.1.0 in
        sym (next-first (Some i) j is (other claim j lt own))

  -- ---- ids

  pub id-nowhere : (id : List ℕ) → rowid_with id entries ≡ None → row_with_id id (rows_of parts places entries) ≡ None
  id-nowhere id none = find-picked_nowhere (row_from parts places) (has_id id) (λ r. has_text id r.id) entries (text_same parts places id) (mapped-none (λ e. e.rowid) _ none)

  pub id-first : (id : List ℕ) (i : ℤ) → rowid_with id entries ≡ Some i → is_claimed_rowid claim i ≡ false → option_map rowid_of (row_with_id id (rows_of parts places entries)) ≡ Some i
  id-first id i is other =
      let m = mapped-some (λ e. e.rowid) _ i is in
      let there : entry_of i entries ≡ Some m.0 = ap (λ j. entry_of j entries) (sym m.1.1) ∙ found-keyed entry_rowid (has_id id) entries m.0 (entries_rise entries rise) m.1.0 in
      let r = has-row i m.0 there other in
      ap (option_map rowid_of) (find-picked_first (row_from parts places) (has_id id) (λ q. has_text id q.id) entries m.0 r.0 (text_same parts places id) m.1.0 r.1)
      ∙ ap Some (keeps parts places m.0 r.0 r.1 ∙ m.1.1)

  pub id-claimed : (id : List ℕ) (i : ℤ) → have_own_ids entries ≡ true → rowid_with id entries ≡ Some i → is_claimed_rowid claim i ≡ true → row_with_id id (rows_of parts places entries) ≡ None
  id-claimed id i own is claimed =
      let m = mapped-some (λ e. e.rowid) _ i is in
      let there : entry_of i entries ≡ Some m.0 = ap (λ j. entry_of j entries) (sym m.1.1) ∙ found-keyed entry_rowid (has_id id) entries m.0 (entries_rise entries rise) m.1.0 in
      own_id parts places id entries m.0 own m.1.0 (claim-none i m.0 there claimed)

  -- ---- rowids

  pub row-nowhere : (i : ℤ) → place_of i entries ≡ None → row_of i (rows_of parts places entries) ≡ None
  row-nowhere i none = row_of-entry parts places entries claim tied rise i ∙ ap (option_and_then (row_from parts places)) (mapped-none (λ e. (e.chunk, e.slot)) _ none)

  pub row-claimed : (i : ℤ) → is_claimed_rowid claim i ≡ true → row_of i (rows_of parts places entries) ≡ None
  row-claimed i own = row_of-entry parts places entries claim tied rise i ∙ by_entry (entry_of i entries) refl where
    by_entry : (o : Option Entry) → entry_of i entries ≡ o → option_and_then (row_from parts places) o ≡ None
    by_entry None is = refl
    by_entry (Some e) is = claim-none i e is own

  -- what is there of a rowid that has a place and no claim
  pub record IsThere (i : ℤ) (c s : ℕ) : Type 0 where
    pub row : StoredRow
    pub used : UsedRow
    pub values : List Value
    pub given : row_of i (rows_of parts places entries) ≡ Some row
    pub seen : seen_at parts c s ≡ Some used
    pub valued : partition_of_chunk places c ≡ Some values
    pub is : row ≡ record { rowid = i; chunk = c; slot = s; id = id_of i entries; partition = values; vectors = used.vectors; cells = used.cells }

  pub row-there : (i : ℤ) (c s : ℕ) → place_of i entries ≡ Some (c, s) → is_claimed_rowid claim i ≡ false → IsThere i c s
  row-there i c s placed other =
      let m = mapped-some (λ e. (e.chunk, e.slot)) (entry_of i entries) (c, s) placed in
      let e = m.0 in
      let c_is : e.chunk ≡ c = ap (λ p. p.0) m.1.1 in
      let s_is : e.slot ≡ s = ap (λ p. p.1) m.1.1 in
      let i_is : e.rowid ≡ i = eq_from e.rowid i (entry-rowid i entries e m.1.0) in
      let r = has-row i e m.1.0 other in
      let told = row-told parts places e r.0 r.1 in
      let seen : seen_at parts c s ≡ Some told.used = seen_like parts c e.chunk s e.slot (Some told.used) (sym c_is) (sym s_is) told.seen in
      let u = at-used places c s (tied.placed c s (ap is_some seen)) in
      let id_is : id_of i entries ≡ e.id = ap (option_and_then (λ x. x.id)) m.1.0 in
      let values_is : values_or_none (partition_of_chunk places e.chunk) ≡ u.0 = ap (λ d. values_or_none (partition_of_chunk places d)) c_is ∙ ap values_or_none u.1.1 in
      record {
        row = r.0;
        used = told.used;
        values = u.0;
        given = row_of-entry parts places entries claim tied rise i ∙ ap (option_and_then (row_from parts places)) m.1.0 ∙ r.1;
        seen = seen;
        valued = u.1.1;
        is = made r.0 e.rowid i e.chunk c e.slot s e.id (id_of i entries) (values_or_none (partition_of_chunk places e.chunk)) u.0 told.used.vectors told.used.cells told.is i_is c_is s_is (sym id_is) values_is;
      }
    where
      made : (row : StoredRow) (a b : ℤ) (d e f g : ℕ) (h j : Option (List ℕ)) (v w : List Value) (x : List (List ℕ)) (y : List Value) → row ≡ row_made a d f h v x y → a ≡ b → d ≡ e → f ≡ g → h ≡ j → v ≡ w →
          row ≡ row_made b e g j w x y
      made row a b d e f g h j v w x y is p q r s t = is ∙ rw (p, q, r, s, t) refl

  -- ---- chunks

  -- each row is seen at its place, and has the partition values of its chunk
  pub record IsSeen (r : StoredRow) : Type 0 where
    pub used : UsedRow
    pub seen : seen_at parts r.chunk r.slot ≡ Some used
    pub own : used.rowid ≡ r.rowid
    pub vectors : r.vectors ≡ used.vectors
    pub valued : partition_of_chunk places r.chunk ≡ Some r.partition
    pub taken : is_used places r.chunk r.slot ≡ true

  pub rows-seen : AllByRecursion IsSeen (rows_of parts places entries)
  rows-seen = all-picked (row_from parts places) IsSeen entries (λ e r is. seen e r (row-told parts places e r is)) where
    seen : (e : Entry) (r : StoredRow) → IsRowOf parts places e r → IsSeen r
    seen e r told =
        let c_is : r.chunk ≡ e.chunk = ap (λ z. z.chunk) told.is in
        let s_is : r.slot ≡ e.slot = ap (λ z. z.slot) told.is in
        let p_is : r.partition ≡ values_or_none (partition_of_chunk places e.chunk) = ap (λ z. z.partition) told.is in
        let at : seen_at parts r.chunk r.slot ≡ Some told.used = seen_like parts r.chunk e.chunk r.slot e.slot (Some told.used) c_is s_is told.seen in
        let taken = tied.placed r.chunk r.slot (ap is_some at) in
        let u = at-used places r.chunk r.slot taken in
        record {
          used = told.used;
          seen = at;
          own = told.own ∙ sym (ap (λ z. z.rowid) told.is);
          vectors = ap (λ z. z.vectors) told.is;
          valued = u.1.1 ∙ ap Some (sym (p_is ∙ ap (λ d. values_or_none (partition_of_chunk places d)) (sym c_is) ∙ ap values_or_none u.1.1));
          taken = taken;
        }

  pub first-values : (c : ℕ) (r : StoredRow) → first_in (rows_of parts places entries) c ≡ Some r → partition_of_chunk places c ≡ Some r.partition
  first-values c r is =
      let f = found-such IsSeen (λ q. c == q.chunk) (rows_of parts places entries) r rows-seen is in
      ap (partition_of_chunk places) (number_is c r.chunk f.1) ∙ f.0.valued

  -- no row is in a chunk that is not there
  pub first-nowhere : (c : ℕ) → part_of parts c ≡ None → first_in (rows_of parts places entries) c ≡ None
  first-nowhere c none = by_first (first_in (rows_of parts places entries) c) refl where
    by_first : (o : Option StoredRow) → first_in (rows_of parts places entries) c ≡ o → o ≡ None
    by_first None is = refl
    by_first (Some r) is =
        let f = found-such IsSeen (λ q. c == q.chunk) (rows_of parts places entries) r rows-seen is in
        let c_is : c ≡ r.chunk = number_is c r.chunk f.1 in
        let never : None ≡ Some f.0.used = sym (ap (λ o. seen_in o r.slot) none) ∙ ap (λ d. seen_at parts d r.slot) c_is ∙ f.0.seen in
        absurd cc

  -- a chunk that is there has a row
  pub first-there : (alike : Shape) (c : ℕ) (p : Part) → HasShape alike p → part_of parts c ≡ Some p → is_some (first_in (rows_of parts places entries) c) ≡ true
  first-there alike c p shape is =
      let s = some_slot p.slots.slots shape.filled in
      let seen : seen_at parts c s.0 ≡ Some s.1.0 = ap (λ o. seen_in o s.0) is ∙ s.1.1 in
      find-weaker (lies_at c s.0) (λ q. c == q.chunk) (rows_of parts places entries) _ (λ q at. (and_parts _ _ at).0) (row_at-seen parts places entries claim tied rise c s.0 s.1.0 seen)
    where
      some_slot : (xs : List (Option UsedRow)) → list_any is_some xs ≡ true → (s : ℕ) × ((u : UsedRow) × (slice_index_or xs s None ≡ Some u))
      some_slot [] h = absurd cc
      some_slot (None ∷ xs) h = let r = some_slot xs h in (suc r.0, (r.1.0, r.1.1))
      some_slot (Some u ∷ xs) h = (zero, (u, refl))

  -- what a slot holds is what its row has
  pub held-at : (c s : ℕ) → seen_at parts c s ≡ option_map held_of (row_at (rows_of parts places entries) c s)
  held-at c s = by_slot (seen_at parts c s) refl where
    by_slot : (o : Option UsedRow) → seen_at parts c s ≡ o → o ≡ option_map held_of (row_at (rows_of parts places entries) c s)
    by_slot None is = sym (ap (option_map held_of) (row_at-none parts places entries claim tied rise c s is))
    by_slot (Some used) is =
        let it = seen-row parts places entries claim tied rise c s used is in
        ap Some (held used it.row (ap (λ q. q.rowid) it.is) (ap (λ q. q.vectors) it.is) (ap (λ q. q.cells) it.is)) ∙ sym (ap (option_map held_of) (row_at-seen parts places entries claim tied rise c s used is))
      where
        held : (u : UsedRow) (r : StoredRow) → r.rowid ≡ u.rowid → r.vectors ≡ u.vectors → r.cells ≡ u.cells → u ≡ held_of r
        held u r i v w = rw (i, v, w) refl

-- ---- what is read at a place

pub never_valued : (places : PlaceMap) (c : ℕ) (values : List Value) → partition_of_chunk places c ≡ Some values → partition_of_chunk places c ≡ None → ⊥
never_valued places c values is none = let never : Some values ≡ None = sym is ∙ none in absurd cc

-- a slot that is seen is one of its chunk's
pub slot-of_seen : (parts : List Part) (c s : ℕ) (slots : RowSlots) → slots_of parts c ≡ Some slots → seen_at parts c s ≡ slot_at slots s
slot-of_seen parts c s slots is = by_part (part_of parts c) is where
  by_part : (o : Option Part) → option_map (λ p. p.slots) o ≡ Some slots → seen_in o s ≡ slot_at slots s
  by_part None h = absurd cc
  by_part (Some p) h = let same : p.slots ≡ slots = cc in ap (λ x. slot_at x s) same

pub never_seen : (parts : List Part) (c s : ℕ) (used : UsedRow) → seen_at parts c s ≡ Some used → slots_of parts c ≡ None → ⊥
never_seen parts c s used seen none = by_part (part_of parts c) none seen where
  by_part : (o : Option Part) → option_map (λ p. p.slots) o ≡ None → seen_in o s ≡ Some used → ⊥
  by_part None h seen = absurd cc
  by_part (Some p) h seen = absurd cc

-- the row by what is read of it
pub row-shown : (i : ℤ) (c s : ℕ) (id id' : Option (List ℕ)) (values values' : List Value) (slots : RowSlots) (used : UsedRow) → id' ≡ id → values ≡ values' → slot_at slots s ≡ Some used →
    row_made i c s id values used.vectors used.cells ≡ row_made i c s id' values' (vectors_in (slot_at slots s)) (cells_in (slot_at slots s))
row-shown i c s id id' values values' slots used same_id same_values seen = rw (same_id, same_values, seen) refl

pub same_some : {A : Type 0} (a b : A) → Some a ≡ Some b → a ≡ b
same_some a b e = cc

-- ---- chunks that are there

pub part-such : (P : Part → Type 0) (ps : List Part) (c : ℕ) (p : Part) → AllByRecursion P ps → part_of ps c ≡ Some p → P p
part-such P [] c p all is = absurd cc
part-such P (x ∷ xs) c p all is = by_test (x.number == c) is (λ later. part-such P xs c p all.1 later) where
  by_test : (t : Bool) → cond t (Some x) (part_of xs c) ≡ Some p → (part_of xs c ≡ Some p → P p) → P p
  by_test true h rest = let same : x ≡ p = cc in subst P same all.0
  by_test false h rest = rest h

-- the part whose slots are these
pub slots-part : (parts : List Part) (c : ℕ) (slots : RowSlots) → slots_of parts c ≡ Some slots → (p : Part) × ((part_of parts c ≡ Some p) × (p.slots ≡ slots))
slots-part parts c slots is = mapped-some (λ p. p.slots) (part_of parts c) slots is

-- slots have the shape of all chunks
pub record HaveShape (alike : Shape) (slots : RowSlots) : Type 0 where
  pub long : length slots.slots ≡ alike.size
  pub wide : slots.widths ≡ alike.widths
  pub celled : slots.kinds ≡ alike.kinds

pub slots-shape : (alike : Shape) (parts : List Part) (c : ℕ) (slots : RowSlots) → ArePartsOf alike parts → slots_of parts c ≡ Some slots → HaveShape alike slots
slots-shape alike parts c slots are is =
    let m = slots-part parts c slots is in
    let shape : HasShape alike m.0 = part-such (HasShape alike) parts c m.0 are.shaped m.1.0 in
    record {
      long = ap (λ x. length x.slots) (sym m.1.1) ∙ shape.long;
      wide = ap (λ x. x.widths) (sym m.1.1) ∙ shape.wide;
      celled = ap (λ x. x.kinds) (sym m.1.1) ∙ shape.celled;
    }

module _ (parts : List Part) (places : PlaceMap) (entries : List Entry) (claim : Option RowPlace) (alike : Shape)
    (tied : AreTied parts places entries claim) (rise : is_rising entries ≡ true) (are : ArePartsOf alike parts) where
  -- a chunk is there just where it has a row
  pub part-first : (c : ℕ) → is_some (part_of parts c) ≡ is_some (first_in (rows_of parts places entries) c)
  part-first c = by_part (part_of parts c) refl where
    by_part : (o : Option Part) → part_of parts c ≡ o → is_some o ≡ is_some (first_in (rows_of parts places entries) c)
    by_part None is = sym (ap is_some (first-nowhere parts places entries claim tied rise c is))
    by_part (Some p) is = sym (first-there parts places entries claim tied rise alike c p (part-such (HasShape alike) parts c p are.shaped is) is)

  pub slots-first : (c : ℕ) → is_some (slots_of parts c) ≡ is_some (first_in (rows_of parts places entries) c)
  slots-first c = by_part (part_of parts c) ∙ part-first c where
    by_part : (o : Option Part) → is_some (option_map (λ p. p.slots) o) ≡ is_some o
    by_part None = refl
    by_part (Some p) = refl

  pub next-first_in : (after : ℕ) (o : Option ℕ) → MatchOption o ((d : ℕ) → after < d → part_of parts d ≡ None) (λ c. (after < c) × (is_some (part_of parts c) ≡ true) × ((d : ℕ) → after < d → d < c → part_of parts d ≡ None)) →
      MatchOption o ((d : ℕ) → after < d → first_in (rows_of parts places entries) d ≡ None) (λ c. (after < c) × (is_some (first_in (rows_of parts places entries) c) ≡ true) × ((d : ℕ) → after < d → d < c → first_in (rows_of parts places entries) d ≡ None))
  next-first_in after None h = λ d lt. first-nowhere parts places entries claim tied rise d (h d lt)
  next-first_in after (Some c) h = (h.0, sym (part-first c) ∙ h.1, λ d lt below. first-nowhere parts places entries claim tied rise d (h.2 d lt below))

-- ---- what holds of an answer

pub if_slots : (P : RowSlots → Type 0) (o : Option (Bor RowSlots)) → ((x : RowSlots) → option_copied o ≡ Some x → P x) → IfSome o (λ s. P s.now)
if_slots P None each = tt
if_slots P (Some s) each = each s.now refl

pub if_some-more : {A : Type 0} (P Q : A → Type 0) (o : Option A) → ((x : A) → P x → Q x) → IfSome o P → IfSome o Q
if_some-more P Q None more h = tt
if_some-more P Q (Some x) more h = more x h

pub copied-some : {A : Type 0} (o : Option (Bor A)) → is_some (option_copied o) ≡ is_some o
copied-some None = refl
copied-some (Some x) = refl

-- ---- the partition values of a chunk

pub first-none : (rows : List StoredRow) (c : ℕ) → is_some (first_in rows c) ≡ false → option_map (λ row. row.partition) (first_in rows c) ≡ None
first-none rows c none = ap (option_map (λ row. row.partition)) (none_is (first_in rows c) none)

pub first-partition : (parts : List Part) (places : PlaceMap) (entries : List Entry) (claim : Option RowPlace) → AreTied parts places entries claim → is_rising entries ≡ true → (c : ℕ) →
    is_some (first_in (rows_of parts places entries) c) ≡ true → partition_of_chunk places c ≡ option_map (λ row. row.partition) (first_in (rows_of parts places entries) c)
first-partition parts places entries claim tied rise c there =
    let r = some_is (first_in (rows_of parts places entries) c) there in
    first-values parts places entries claim tied rise c r.0 r.1 ∙ sym (ap (option_map (λ row. row.partition)) r.1)

-- ---- what holds of all rows

pub record AreRows (size : ℕ) (widths : List ℕ) (rows : List StoredRow) : Type 0 where
  pub rising : keys_rise rowid_of rows ≡ true
  pub positive : AllByRecursion (λ row. 0 < row.chunk) rows
  pub narrow : AllByRecursion (λ row. row.chunk < 2 ^ 32) rows
  pub within : AllByRecursion (λ row. row.slot < size) rows
  pub wide : AllByRecursion (λ row. map length row.vectors ≡ widths) rows
  pub apart : AllPairs (λ row later. row.chunk ≡ later.chunk → row.slot ≡ later.slot → ⊥) rows
  pub alike : AllPairs (λ row later. row.chunk ≡ later.chunk → row.partition ≡ later.partition) rows

all-turned : {A : Type 0} (P Q : A → Type 0) (xs : List A) → ((x : A) → P x → Q x) → AllByRecursion P xs → AllByRecursion Q xs
all-turned P Q [] turn all = tt
all-turned P Q (x ∷ xs) turn all = (turn x all.0, all-turned P Q xs turn all.1)

positive_at : (places : PlaceMap) (c s : ℕ) → IsPlaceMap places → is_used places c s ≡ true → 0 < c
positive_at places zero s known used = let never : true ≡ false = sym (chunk_used places 0 s used) ∙ known.positive in absurd cc
positive_at places (suc c) s known used = omega arith

part-seen : (parts : List Part) (c s : ℕ) (used : UsedRow) → seen_at parts c s ≡ Some used → (p : Part) × ((part_of parts c ≡ Some p) × (slot_at p.slots s ≡ Some used))
part-seen parts c s used seen = by_part (part_of parts c) refl seen where
  by_part : (o : Option Part) → part_of parts c ≡ o → seen_in o s ≡ Some used → (p : Part) × ((part_of parts c ≡ Some p) × (slot_at p.slots s ≡ Some used))
  by_part None is h = absurd cc
  by_part (Some p) is h = (p, (is, h))

lt_self : (a b : ℤ) → a ≡ b → int_lt a b ≡ true → ⊥
lt_self a b e h = let same : int_lt b b ≡ true = ap (λ z. int_lt z b) (sym e) ∙ h in let never : true ≡ false = sym same ∙ not_below b in absurd cc where
  not_below : (z : ℤ) → int_lt z z ≡ false
  not_below z = grind (arith, ints)

module _ (parts : List Part) (places : PlaceMap) (entries : List Entry) (claim : Option RowPlace) (alike : Shape)
    (tied : AreTied parts places entries claim) (rise : is_rising entries ≡ true) (are : ArePartsOf alike parts) (known : IsPlaceMap places) (sized : places.size ≡ alike.size) where
  rows-rise : keys_rise rowid_of (rows_of parts places entries) ≡ true
  rows-rise = picked-rise entry_rowid rowid_of (row_from parts places) entries (keeps parts places) (entries_rise entries rise)

  abbrev Seen : StoredRow → Type 0
  Seen r = IsSeen parts places entries claim tied rise r

  all-seen : AllByRecursion Seen (rows_of parts places entries)
  all-seen = rows-seen parts places entries claim tied rise

  narrow_row : (r : StoredRow) → Seen r → r.chunk < 2 ^ 32
  narrow_row r s =
      let p = part-seen parts r.chunk r.slot s.used s.seen in
      let shape : HasShape alike p.0 = part-such (HasShape alike) parts r.chunk p.0 are.shaped p.1.0 in
      let number : p.0.number ≡ r.chunk = part_of-number parts r.chunk p.0 p.1.0 in
      subst (λ n. n < 2 ^ 32) number shape.narrow

  wide_row : (r : StoredRow) → Seen r → map length r.vectors ≡ alike.widths
  wide_row r s =
      let p = part-seen parts r.chunk r.slot s.used s.seen in
      let shape : HasShape alike p.0 = part-such (HasShape alike) parts r.chunk p.0 are.shaped p.1.0 in
      ap (map length) s.vectors ∙ shape.vectors r.slot s.used p.1.1

  apart_rows : (r q : StoredRow) → Seen r → Seen q → int_lt r.rowid q.rowid ≡ true → r.chunk ≡ q.chunk → r.slot ≡ q.slot → ⊥
  apart_rows r q s t lt c_is s_is =
      let seen : seen_at parts r.chunk r.slot ≡ Some t.used = seen_like parts r.chunk q.chunk r.slot q.slot (Some t.used) c_is s_is t.seen in
      let used_is : s.used ≡ t.used = same_some s.used t.used (sym s.seen ∙ seen) in
      lt_self r.rowid q.rowid (sym s.own ∙ ap (λ u. u.rowid) used_is ∙ t.own) lt

  alike_rows : (r q : StoredRow) → Seen r → Seen q → r.chunk ≡ q.chunk → r.partition ≡ q.partition
  alike_rows r q s t c_is = same_some r.partition q.partition (sym s.valued ∙ ap (partition_of_chunk places) c_is ∙ t.valued)

  pub rows-known : AreRows alike.size alike.widths (rows_of parts places entries)
  rows-known = record {
    rising = rows-rise;
    positive = all-turned Seen (λ row. 0 < row.chunk) _ (λ r s. positive_at places r.chunk r.slot known s.taken) all-seen;
    narrow = all-turned Seen (λ row. row.chunk < 2 ^ 32) _ narrow_row all-seen;
    within = all-turned Seen (λ row. row.slot < alike.size) _ (λ r s. subst (λ n. r.slot < n) sized (known.within r.chunk r.slot s.taken)) all-seen;
    wide = all-turned Seen (λ row. map length row.vectors ≡ alike.widths) _ wide_row all-seen;
    apart = pairs-by_key rowid_of Seen (λ row later. row.chunk ≡ later.chunk → row.slot ≡ later.slot → ⊥) _ rows-rise all-seen apart_rows;
    alike = pairs-by_key rowid_of Seen (λ row later. row.chunk ≡ later.chunk → row.partition ≡ later.partition) _ rows-rise all-seen (λ r q s t lt. alike_rows r q s t);
  }
