-- What each step of a change leaves of the rows, and that slots, places and entries still tell of the same ones.
use Rattle.std.proofs.Common.{◌≡◌, ℕ, ℤ, int_lt, Bool, true, false, cond, if◌then◌else◌, List, [], ◌∷◌, refl, sym, ap, ◌∙◌, arith, Some, None, Ok, Err, subst}
use Rattle.std.specs.Prelude.{◌&&◌, ◌||◌, ◌==◌, is_some, is_ok, OnOk}
use Rattle.std.specs.declared.result.Result.{Result}
use Rattle.vec_base.specs.declared.memory.Memory.{Memory}
use Rattle.std.specs.List.{cons_option}
use Rattle.std.specs.Ordering.{int_eq}
use Rattle.std.specs.declared.option.Option.{Option}
use Rattle.std.proofs.lemmas.Bool.{and_parts, and_from, cond-true, cond-false}
use Rattle.std.proofs.lemmas.Int.{ints}
use Rattle.vec_base.specs.declared.value.Value.{Value}
use Rattle.row_chunks.specs.RowSlots.{UsedRow}
use Rattle.row_index.specs.Entries.{entry_of, has_rowid, is_rising, with_entry, without as without_entry}
use Rattle.row_index.specs.declared.entry.Entry.{Entry}
use Rattle.slot_alloc.specs.Changes.{UsesAlso, UsesNoMore}
use Rattle.slot_alloc.specs.declared.chunk.Chunk.{Chunk}
use Rattle.slot_alloc.specs.Places.{PlaceMap, IsPlaceMap, partition_at, partition_of_chunk, partition_in, partition_in_slot, chunk_with, is_used, has_chunk}
use Rattle.row_store.specs.Keyed.{keys_rise, with_keyed}
use Rattle.row_store.specs.StoredRows.{StoredRow, rowid_of, with_row, without}
use Rattle.row_store.specs.declared.part.Part.{Part}
use Rattle.row_store.specs.declared.place.RowPlace.{RowPlace}
use Rattle.row_store.specs.inner.Parts.{seen_at, IsChangedAt}
use Rattle.row_store.specs.inner.Views.{row_in, row_from, rows_of, AreTied, values_or_none}
use Rattle.row_store.proofs.KeyedLaws.{found-with_other, found-with, found-without_other, found-without}
use Rattle.row_store.proofs.PickLaws.{KeepsKeys, picked-with_none, picked-without_none, picked-more, picked-less}

abbrev pub entry_rowid : Entry → ℤ
entry_rowid e = e.rowid

-- ---- tests on numbers

pub both_equal : (d c t s : ℕ) → (d == c && t == s) ≡ true → (d ≡ c) × (t ≡ s)
both_equal d c t s h = grind arith

pub number_is : (a b : ℕ) → (a == b) ≡ true → a ≡ b
number_is a b h = grind arith

pub same_number : (c : ℕ) → (c == c) ≡ true
same_number c = grind arith

pub same_place : (c s : ℕ) → (c == c && s == s) ≡ true
same_place c s = grind arith

pub eq_from : (a b : ℤ) → int_eq a b ≡ true → a ≡ b
eq_from a b h = grind (arith, ints)

pub eq_to : (a b : ℤ) → a ≡ b → int_eq a b ≡ true
eq_to a b h = grind (arith, ints)

pub some_is : {A : Type 0} (o : Option A) → is_some o ≡ true → (x : A) × (o ≡ Some x)
some_is None h = absurd cc
some_is (Some x) h = (x, refl)

-- ---- rows of entries

row_in-key : (partition : Option (List Value)) (e : Entry) (o : Option UsedRow) (r : StoredRow) → row_in partition e o ≡ Some r → rowid_of r ≡ e.rowid
row_in-key partition e None r is = absurd cc
row_in-key partition e (Some used) r is = by_test (int_eq used.rowid e.rowid) is where
  by_test : (t : Bool) → cond t (Some (record { rowid = e.rowid; chunk = e.chunk; slot = e.slot; id = e.id; partition = values_or_none partition; vectors = used.vectors; cells = used.cells })) None ≡ Some r → rowid_of r ≡ e.rowid
  by_test true same = let is : record { rowid = e.rowid; chunk = e.chunk; slot = e.slot; id = e.id; partition = values_or_none partition; vectors = used.vectors; cells = used.cells } ≡ r = cc in ap rowid_of (sym is)
  by_test false same = absurd cc

pub keeps : (parts : List Part) (places : PlaceMap) → KeepsKeys entry_rowid rowid_of (row_from parts places)
keeps parts places e r is = row_in-key (partition_of_chunk places e.chunk) e (seen_at parts e.chunk e.slot) r is

-- an entry has a row exactly where the slot is used by its rowid
pub row_in-some : (partition : Option (List Value)) (e : Entry) (o : Option UsedRow) → is_some (row_in partition e o) ≡ true → (used : UsedRow) × ((o ≡ Some used) × (used.rowid ≡ e.rowid))
row_in-some partition e None h = absurd cc
row_in-some partition e (Some used) h = (used, (refl, by_test (int_eq used.rowid e.rowid) refl h)) where
  by_test : (t : Bool) → int_eq used.rowid e.rowid ≡ t → is_some {T = StoredRow} (cond t (Some (record { rowid = e.rowid; chunk = e.chunk; slot = e.slot; id = e.id; partition = values_or_none partition; vectors = used.vectors; cells = used.cells })) None) ≡ true → used.rowid ≡ e.rowid
  by_test true same s = eq_from used.rowid e.rowid same
  by_test false same s = absurd cc

pub row_in-is : (partition : Option (List Value)) (e : Entry) (o : Option UsedRow) (used : UsedRow) → o ≡ Some used → used.rowid ≡ e.rowid →
    row_in partition e o ≡ Some (record { rowid = e.rowid; chunk = e.chunk; slot = e.slot; id = e.id; partition = values_or_none partition; vectors = used.vectors; cells = used.cells })
row_in-is partition e o used is same = ap (row_in partition e) is ∙ cond-true _ _ _ (eq_to used.rowid e.rowid same)

pub row_in-none : (partition : Option (List Value)) (e : Entry) (o : Option UsedRow) → ((used : UsedRow) → o ≡ Some used → int_eq used.rowid e.rowid ≡ false) → row_in partition e o ≡ None
row_in-none partition e None other = refl
row_in-none partition e (Some used) other = cond-false _ _ _ (other used refl)

-- what is found has the rowid
pub entry-rowid : (i : ℤ) (entries : List Entry) (e : Entry) → entry_of i entries ≡ Some e → int_eq e.rowid i ≡ true
entry-rowid i [] e is = absurd cc
entry-rowid i (x ∷ xs) e is = by_test (int_eq x.rowid i) refl is (λ later. entry-rowid i xs e later) where
  by_test : (t : Bool) → int_eq x.rowid i ≡ t → cond t (Some x) (entry_of i xs) ≡ Some e → (entry_of i xs ≡ Some e → int_eq e.rowid i ≡ true) → int_eq e.rowid i ≡ true
  by_test true here same rest = let is : x ≡ e = cc in ap (λ y. int_eq y.rowid i) (sym is) ∙ here
  by_test false here later rest = rest later

-- the entries rise by the test of keys too
pub entries_rise : (entries : List Entry) → is_rising entries ≡ true → keys_rise entry_rowid entries ≡ true
entries_rise [] h = refl
entries_rise (x ∷ xs) h = and_from _ _ (and_parts _ _ h).0 (entries_rise xs (and_parts _ _ h).1)

-- the entries with one more are those with one more by keys
pub with_entry-keyed : (e : Entry) (entries : List Entry) → with_entry e entries ≡ with_keyed entry_rowid e entries
with_entry-keyed e [] = refl
with_entry-keyed e (x ∷ xs) = ap (λ l. if int_lt e.rowid x.rowid then e ∷ x ∷ xs else x ∷ l) (with_entry-keyed e xs)

-- what is found beside a new entry, and the new entry itself
pub entry-with_other : (e : Entry) (i : ℤ) (entries : List Entry) → int_eq e.rowid i ≡ false → entry_of i (with_entry e entries) ≡ entry_of i entries
entry-with_other e i entries other = ap (entry_of i) (with_entry-keyed e entries) ∙ found-with_other entry_rowid (λ x. int_eq x.rowid i) e entries other

pub entry-with : (e : Entry) (entries : List Entry) → entry_of e.rowid entries ≡ None → entry_of e.rowid (with_entry e entries) ≡ Some e
entry-with e entries none = ap (entry_of e.rowid) (with_entry-keyed e entries) ∙ found-with entry_rowid (λ x. int_eq x.rowid e.rowid) e entries (eq_to e.rowid e.rowid refl) none

pub entry-without_other : (i j : ℤ) (entries : List Entry) → int_eq j i ≡ false → entry_of i (without_entry j entries) ≡ entry_of i entries
entry-without_other i j entries other = found-without_other entry_rowid (λ x. int_eq x.rowid i) j entries (λ x here. apart x.rowid here) where
  apart : (k : ℤ) → int_eq k j ≡ true → int_eq k i ≡ false
  apart k here = grind (arith, ints)

pub entry-without : (i : ℤ) (entries : List Entry) → entry_of i (without_entry i entries) ≡ None
entry-without i entries = found-without entry_rowid (λ x. int_eq x.rowid i) i entries (λ x here. here)

-- ---- places

-- the chunk of a used place is there
pub chunk_used : (places : PlaceMap) (c s : ℕ) → is_used places c s ≡ true → has_chunk places c ≡ true
chunk_used places c s used = by_chunk (chunk_with places.chunks c) used where
  by_chunk : (o : Option Chunk) → is_some (partition_in_slot o s) ≡ true → is_some (partition_in o) ≡ true
  by_chunk None h = h
  by_chunk (Some x) h = refl

-- ---- 1. a place is claimed

module _ (parts : List Part) (places new : PlaceMap) (entries : List Entry) (claim : RowPlace) (partition : List Value)
    (tied : AreTied parts places entries None) (known : IsPlaceMap places)
    (fits : has_chunk places claim.chunk ≡ true → partition_of_chunk places claim.chunk ≡ Some partition)
    (unused : is_used places claim.chunk claim.slot ≡ false)
    (also : UsesAlso places claim.chunk claim.slot partition new) where
  -- the chunk of a used slot has the same partition values as before
  same_partition : (c s : ℕ) → is_used places c s ≡ true → partition_of_chunk new c ≡ partition_of_chunk places c
  same_partition c s used = also.chunks c ∙ by_test (c == claim.chunk) refl where
    by_test : (t : Bool) → (c == claim.chunk) ≡ t → cond t (Some partition) (partition_of_chunk places c) ≡ partition_of_chunk places c
    by_test true e =
        let is : c ≡ claim.chunk = number_is c claim.chunk e in
        let there : has_chunk places claim.chunk ≡ true = subst (λ d. has_chunk places d ≡ true) is (chunk_used places c s used) in
        sym (ap (partition_of_chunk places) is ∙ fits there)
    by_test false e = refl

  pub claimed-row : (e : Entry) → row_from parts new e ≡ row_from parts places e
  claimed-row e = by_slot (seen_at parts e.chunk e.slot) refl where
    by_slot : (o : Option UsedRow) → seen_at parts e.chunk e.slot ≡ o → row_in (partition_of_chunk new e.chunk) e o ≡ row_in (partition_of_chunk places e.chunk) e o
    by_slot None is = refl
    by_slot (Some used) is = ap (λ p. row_in p e (Some used)) (same_partition e.chunk e.slot (tied.placed e.chunk e.slot (ap is_some is)))

  used_now : (c s : ℕ) → is_used new c s ≡ cond (c == claim.chunk && s == claim.slot) true (is_used places c s)
  used_now c s = ap is_some (also.places c s) ∙ by_test (c == claim.chunk && s == claim.slot) where
    by_test : (t : Bool) → is_some (cond t (Some partition) (partition_at places c s)) ≡ cond t true (is_used places c s)
    by_test true = refl
    by_test false = refl

  pub claimed-tied : ((c s : ℕ) (used : UsedRow) → seen_at parts c s ≡ Some used → int_eq claim.rowid used.rowid ≡ false) → AreTied parts new entries (Some claim)
  claimed-tied apart = record {
    entered = tied.entered;
    placed = λ c s seen. used_now c s ∙ or_true (c == claim.chunk && s == claim.slot) (is_used places c s) (tied.placed c s seen);
    held = λ i e is other. ap is_some (claimed-row e) ∙ tied.held i e is refl;
    used = λ c s used other. tied.used c s (sym (cond-false _ _ _ other) ∙ sym (used_now c s) ∙ used) refl;
    claimed = λ c s is. used_now c s ∙ cond-true _ _ _ is;
    free = λ c s is. not_seen c s is;
    absent = apart;
  } where
    or_true : (t b : Bool) → b ≡ true → cond t true b ≡ true
    or_true true b e = refl
    or_true false b e = e

    not_seen : (c s : ℕ) → (c == claim.chunk && s == claim.slot) ≡ true → seen_at parts c s ≡ None
    not_seen c s is = by_slot (seen_at parts c s) refl where
      by_slot : (o : Option UsedRow) → seen_at parts c s ≡ o → o ≡ None
      by_slot None seen = refl
      by_slot (Some used) seen =
          let p = both_equal c claim.chunk s claim.slot is in
          let was : is_used places claim.chunk claim.slot ≡ true = subst (λ d. is_used places d claim.slot ≡ true) p.0 (subst (λ t. is_used places c t ≡ true) p.1 (tied.placed c s (ap is_some seen))) in
          let never : true ≡ false = sym was ∙ unused in
          absurd cc

-- ---- 2. the rowid of a claim gets an entry

-- an entry whose slot is free has no row
no_row : (parts : List Part) (places : PlaceMap) (e : Entry) → seen_at parts e.chunk e.slot ≡ None → row_from parts places e ≡ None
no_row parts places e free = ap (row_in (partition_of_chunk places e.chunk) e) free

module _ (parts : List Part) (places : PlaceMap) (entries : List Entry) (claim : RowPlace) (e : Entry)
    (tied : AreTied parts places entries (Some claim)) (none : entry_of claim.rowid entries ≡ None)
    (rowid : e.rowid ≡ claim.rowid) (chunk : e.chunk ≡ claim.chunk) (slot : e.slot ≡ claim.slot) where
  claimed_free : seen_at parts e.chunk e.slot ≡ None
  claimed_free = tied.free e.chunk e.slot (rw (chunk, slot) (same_place claim.chunk claim.slot))

  pub entered-rows : rows_of parts places (with_entry e entries) ≡ rows_of parts places entries
  entered-rows = ap (rows_of parts places) (with_entry-keyed e entries) ∙ picked-with_none entry_rowid (row_from parts places) e entries (no_row parts places e claimed_free)

  pub entered-entry : entry_of claim.rowid (with_entry e entries) ≡ Some e
  entered-entry = ap (λ i. entry_of i (with_entry e entries)) (sym rowid) ∙ entry-with e entries (ap (λ i. entry_of i entries) rowid ∙ none)

  other_entry : (i : ℤ) → int_eq claim.rowid i ≡ false → entry_of i (with_entry e entries) ≡ entry_of i entries
  other_entry i other = entry-with_other e i entries (ap (λ j. int_eq j i) rowid ∙ other)

  pub entered-tied : AreTied parts places (with_entry e entries) (Some claim)
  entered-tied = record {
    entered = λ c s used seen.
        let found = tied.entered c s used seen in
        (found.0, (other_entry used.rowid (tied.absent c s used seen) ∙ found.1.0, found.1.1));
    placed = tied.placed;
    held = λ i x is other. tied.held i x (sym (other_entry i other) ∙ is) other;
    used = tied.used;
    claimed = tied.claimed;
    free = tied.free;
    absent = tied.absent;
  }

-- ---- 3. the row of a claim takes its slot

module _ (parts new : List Part) (places : PlaceMap) (entries : List Entry) (claim : RowPlace) (e : Entry) (used : UsedRow) (partition : List Value)
    (tied : AreTied parts places entries (Some claim)) (rise : is_rising entries ≡ true)
    (there : entry_of claim.rowid entries ≡ Some e) (chunk : e.chunk ≡ claim.chunk) (slot : e.slot ≡ claim.slot)
    (own : used.rowid ≡ claim.rowid) (change : IsChangedAt claim.chunk claim.slot (Some used) parts new)
    (values : partition_of_chunk places claim.chunk ≡ Some partition) where
  seen_now : seen_at new claim.chunk claim.slot ≡ Some used
  seen_now = change.seen claim.chunk claim.slot ∙ cond-true _ _ _ (same_place claim.chunk claim.slot)

  seen_here : seen_at new e.chunk e.slot ≡ Some used
  seen_here = rw (chunk, slot) seen_now

  e_rowid : e.rowid ≡ claim.rowid
  e_rowid = eq_from e.rowid claim.rowid (entry-rowid claim.rowid entries e there)

  -- the row that came
  abbrev put_row : StoredRow
  put_row = record { rowid = claim.rowid; chunk = claim.chunk; slot = claim.slot; id = e.id; partition = partition; vectors = used.vectors; cells = used.cells }

  new_row : row_from new places e ≡ Some put_row
  new_row = row_in-is (partition_of_chunk places e.chunk) e (seen_at new e.chunk e.slot) used seen_here (own ∙ sym e_rowid) ∙ rw (e_rowid, chunk, slot, values) refl

  -- other entries are not of this slot
  other_row : (x : Entry) → int_eq x.rowid claim.rowid ≡ false → row_from parts places x ≡ row_from new places x
  other_row x other = by_place (x.chunk == claim.chunk && x.slot == claim.slot) refl where
    by_place : (t : Bool) → (x.chunk == claim.chunk && x.slot == claim.slot) ≡ t → row_from parts places x ≡ row_from new places x
    by_place true is =
        let was : row_from parts places x ≡ None = no_row parts places x (tied.free x.chunk x.slot is) in
        let seen : seen_at new x.chunk x.slot ≡ Some used = change.seen x.chunk x.slot ∙ cond-true _ _ _ is in
        let now : row_from new places x ≡ None = row_in-none (partition_of_chunk places x.chunk) x (seen_at new x.chunk x.slot) (λ u is_u. not_own u (sym is_u ∙ seen)) in
        was ∙ sym now
      where
        apart : (a b : ℤ) → int_eq b a ≡ false → int_eq a b ≡ false
        apart a b h = grind (arith, ints)

        not_own : (u : UsedRow) → Some u ≡ Some used → int_eq u.rowid x.rowid ≡ false
        not_own u same = let is : u ≡ used = cc in ap (λ w. int_eq w.rowid x.rowid) is ∙ ap (λ i. int_eq i x.rowid) own ∙ apart claim.rowid x.rowid other
    by_place false is = ap (row_in (partition_of_chunk places x.chunk) x) (sym (change.seen x.chunk x.slot ∙ cond-false _ _ _ is))

  pub placed-rows : rows_of new places entries ≡ with_row put_row (rows_of parts places entries)
  placed-rows =
      let was : row_from parts places e ≡ None = no_row parts places e (tied.free e.chunk e.slot (rw (chunk, slot) (same_place claim.chunk claim.slot))) in
      picked-more entry_rowid rowid_of (row_from parts places) (row_from new places) claim.rowid entries e put_row (keeps parts places) (keeps new places) (entries_rise entries rise) there was new_row other_row

  seen_others : (c s : ℕ) → (c == claim.chunk && s == claim.slot) ≡ false → seen_at new c s ≡ seen_at parts c s
  seen_others c s other = change.seen c s ∙ cond-false _ _ _ other

  pub placed-tied : AreTied new places entries None
  placed-tied = record {
    entered = λ c s u seen. entered c s u seen (c == claim.chunk && s == claim.slot) refl;
    placed = λ c s seen. placed c s seen (c == claim.chunk && s == claim.slot) refl;
    held = λ i x is other. held i x is (int_eq claim.rowid i) refl;
    used = λ c s is other. seen c s is (c == claim.chunk && s == claim.slot) refl;
    claimed = λ c s never. absurd cc;
    free = λ c s never. absurd cc;
    absent = λ c s u seen. refl;
  } where
    entered : (c s : ℕ) (u : UsedRow) → seen_at new c s ≡ Some u → (t : Bool) → (c == claim.chunk && s == claim.slot) ≡ t → (x : Entry) × ((entry_of u.rowid entries ≡ Some x) × ((x.chunk ≡ c) × (x.slot ≡ s)))
    entered c s u seen true is =
        let p = both_equal c claim.chunk s claim.slot is in
        let same : Some used ≡ Some u = sym (change.seen c s ∙ cond-true _ _ _ is) ∙ seen in
        let u_is : used ≡ u = cc in
        let own_u : u.rowid ≡ claim.rowid = ap (λ w. w.rowid) (sym u_is) ∙ own in
        (e, (ap (λ i. entry_of i entries) own_u ∙ there, (chunk ∙ sym p.0, slot ∙ sym p.1)))
    entered c s u seen false is = tied.entered c s u (sym (seen_others c s is) ∙ seen)

    placed : (c s : ℕ) → is_some (seen_at new c s) ≡ true → (t : Bool) → (c == claim.chunk && s == claim.slot) ≡ t → is_used places c s ≡ true
    placed c s seen true is = tied.claimed c s is
    placed c s seen false is = tied.placed c s (ap is_some (sym (seen_others c s is)) ∙ seen)

    held : (i : ℤ) (x : Entry) → entry_of i entries ≡ Some x → (t : Bool) → int_eq claim.rowid i ≡ t → is_some (row_from new places x) ≡ true
    held i x is true own_i =
        let i_is : claim.rowid ≡ i = eq_from claim.rowid i own_i in
        let same : Some e ≡ Some x = sym there ∙ ap (λ j. entry_of j entries) i_is ∙ is in
        let x_is : e ≡ x = cc in
        ap (λ y. is_some (row_from new places y)) (sym x_is) ∙ ap is_some new_row
    held i x is false other_i =
        let x_i = eq_from x.rowid i (entry-rowid i entries x is) in
        let other : int_eq x.rowid claim.rowid ≡ false = ap (λ j. int_eq j claim.rowid) x_i ∙ apart claim.rowid i other_i in
        ap is_some (sym (other_row x other)) ∙ tied.held i x is other_i
      where
        apart : (a b : ℤ) → int_eq a b ≡ false → int_eq b a ≡ false
        apart a b h = grind (arith, ints)

    seen : (c s : ℕ) → is_used places c s ≡ true → (t : Bool) → (c == claim.chunk && s == claim.slot) ≡ t → is_some (seen_at new c s) ≡ true
    seen c s is true at = ap is_some (change.seen c s ∙ cond-true _ _ _ at)
    seen c s is false at = ap is_some (seen_others c s at) ∙ tied.used c s is at

-- ---- 4. a row leaves its slot

module _ (parts new : List Part) (places : PlaceMap) (entries : List Entry) (claim : RowPlace) (used : UsedRow)
    (tied : AreTied parts places entries None) (rise : is_rising entries ≡ true)
    (seen : seen_at parts claim.chunk claim.slot ≡ Some used) (own : used.rowid ≡ claim.rowid)
    (change : IsChangedAt claim.chunk claim.slot None parts new) where
  left_others : (c s : ℕ) → (c == claim.chunk && s == claim.slot) ≡ false → seen_at new c s ≡ seen_at parts c s
  left_others c s other = change.seen c s ∙ cond-false _ _ _ other

  -- what is seen now was seen, and has another rowid
  was_seen : (c s : ℕ) (u : UsedRow) → seen_at new c s ≡ Some u → ((c == claim.chunk && s == claim.slot) ≡ false) × (seen_at parts c s ≡ Some u)
  was_seen c s u is = by_place (c == claim.chunk && s == claim.slot) refl where
    by_place : (t : Bool) → (c == claim.chunk && s == claim.slot) ≡ t → ((c == claim.chunk && s == claim.slot) ≡ false) × (seen_at parts c s ≡ Some u)
    by_place true at = let never : None ≡ Some u = sym (change.seen c s ∙ cond-true _ _ _ at) ∙ is in absurd cc
    by_place false at = (at, sym (left_others c s at) ∙ is)

  other_rowid : (c s : ℕ) (u : UsedRow) → seen_at new c s ≡ Some u → int_eq claim.rowid u.rowid ≡ false
  other_rowid c s u is = by_test (int_eq claim.rowid u.rowid) refl where
    by_test : (t : Bool) → int_eq claim.rowid u.rowid ≡ t → int_eq claim.rowid u.rowid ≡ false
    by_test false h = h
    by_test true h =
        let w = was_seen c s u is in
        let x = tied.entered c s u w.1 in
        let y = tied.entered claim.chunk claim.slot used seen in
        let same_i : used.rowid ≡ u.rowid = own ∙ eq_from claim.rowid u.rowid h in
        let same : Some y.0 ≡ Some x.0 = sym y.1.0 ∙ ap (λ j. entry_of j entries) same_i ∙ x.1.0 in
        let e_is : y.0 ≡ x.0 = cc in
        let c_is : c ≡ claim.chunk = sym x.1.1.0 ∙ ap (λ q. q.chunk) (sym e_is) ∙ y.1.1.0 in
        let s_is : s ≡ claim.slot = sym x.1.1.1 ∙ ap (λ q. q.slot) (sym e_is) ∙ y.1.1.1 in
        let at : (c == claim.chunk && s == claim.slot) ≡ true = rw (c_is, s_is) (same_place claim.chunk claim.slot) in
        let never : true ≡ false = sym at ∙ w.0 in
        absurd cc

  gone : (x : Entry) → int_eq x.rowid claim.rowid ≡ true → row_from new places x ≡ None
  gone x is = row_in-none (partition_of_chunk places x.chunk) x (seen_at new x.chunk x.slot) (λ u seen_u. apart u.rowid x.rowid claim.rowid (other_rowid x.chunk x.slot u seen_u) is) where
    apart : (a b c : ℤ) → int_eq c a ≡ false → int_eq b c ≡ true → int_eq a b ≡ false
    apart a b c h k = grind (arith, ints)

  kept_row : (x : Entry) → int_eq x.rowid claim.rowid ≡ false → row_from parts places x ≡ row_from new places x
  kept_row x other = by_place (x.chunk == claim.chunk && x.slot == claim.slot) refl where
    by_place : (t : Bool) → (x.chunk == claim.chunk && x.slot == claim.slot) ≡ t → row_from parts places x ≡ row_from new places x
    by_place true is =
        let p = both_equal x.chunk claim.chunk x.slot claim.slot is in
        let seen_x : seen_at parts x.chunk x.slot ≡ Some used = rw (p.0, p.1) seen in
        let was : row_from parts places x ≡ None = row_in-none (partition_of_chunk places x.chunk) x (seen_at parts x.chunk x.slot) (λ u is_u. not_own u (sym is_u ∙ seen_x)) in
        let now : row_from new places x ≡ None = no_row new places x (change.seen x.chunk x.slot ∙ cond-true _ _ _ is) in
        was ∙ sym now
      where
        apart : (a b : ℤ) → int_eq b a ≡ false → int_eq a b ≡ false
        apart a b h = grind (arith, ints)

        not_own : (u : UsedRow) → Some u ≡ Some used → int_eq u.rowid x.rowid ≡ false
        not_own u same = let is_u : u ≡ used = cc in ap (λ w. int_eq w.rowid x.rowid) is_u ∙ ap (λ i. int_eq i x.rowid) own ∙ apart claim.rowid x.rowid other
    by_place false is = ap (row_in (partition_of_chunk places x.chunk) x) (sym (left_others x.chunk x.slot is))

  pub dropped-rows : rows_of new places entries ≡ without claim.rowid (rows_of parts places entries)
  dropped-rows = picked-less entry_rowid rowid_of (row_from parts places) (row_from new places) claim.rowid entries (keeps parts places) gone kept_row

  pub dropped-tied : AreTied new places entries (Some claim)
  dropped-tied = record {
    entered = λ c s u is. tied.entered c s u (was_seen c s u is).1;
    placed = λ c s is. let u = some_is (seen_at new c s) is in tied.placed c s (ap is_some (was_seen c s u.0 u.1).1);
    held = λ i x is other.
        let x_i = eq_from x.rowid i (entry-rowid i entries x is) in
        ap is_some (sym (kept_row x (ap (λ j. int_eq j claim.rowid) x_i ∙ apart claim.rowid i other))) ∙ tied.held i x is refl;
    used = λ c s is other. ap is_some (left_others c s other) ∙ tied.used c s is refl;
    claimed = λ c s at. let p = both_equal c claim.chunk s claim.slot at in rw (p.0, p.1) (tied.placed claim.chunk claim.slot (ap is_some seen));
    free = λ c s at. change.seen c s ∙ cond-true _ _ _ at;
    absent = λ c s u is. other_rowid c s u is;
  } where
    apart : (a b : ℤ) → int_eq a b ≡ false → int_eq b a ≡ false
    apart a b h = grind (arith, ints)

-- ---- 5. the entry of a claim goes

module _ (parts : List Part) (places : PlaceMap) (entries : List Entry) (claim : RowPlace)
    (tied : AreTied parts places entries (Some claim)) (rise : is_rising entries ≡ true) where
  -- the entry of the claim has no row
  claim_row : (x : Entry) → entry_of claim.rowid entries ≡ Some x → row_from parts places x ≡ None
  claim_row x there = row_in-none (partition_of_chunk places x.chunk) x (seen_at parts x.chunk x.slot) (λ u seen. apart u.rowid x.rowid claim.rowid (tied.absent x.chunk x.slot u seen) (entry-rowid claim.rowid entries x there)) where
    apart : (a b c : ℤ) → int_eq c a ≡ false → int_eq b c ≡ true → int_eq a b ≡ false
    apart a b c h k = grind (arith, ints)

  pub unentered-rows : rows_of parts places (without_entry claim.rowid entries) ≡ rows_of parts places entries
  unentered-rows = picked-without_none entry_rowid (row_from parts places) claim.rowid entries claim_row (entries_rise entries rise)

  pub unentered-tied : AreTied parts places (without_entry claim.rowid entries) (Some claim)
  unentered-tied = record {
    entered = λ c s u seen.
        let found = tied.entered c s u seen in
        (found.0, (entry-without_other u.rowid claim.rowid entries (tied.absent c s u seen) ∙ found.1.0, found.1.1));
    placed = tied.placed;
    held = λ i x is other. tied.held i x (sym (entry-without_other i claim.rowid entries other) ∙ is) other;
    used = tied.used;
    claimed = tied.claimed;
    free = tied.free;
    absent = tied.absent;
  }

-- ---- 6. the place of a claim is given back

module _ (parts : List Part) (places new : PlaceMap) (entries : List Entry) (claim : RowPlace) (emptied : Bool)
    (tied : AreTied parts places entries (Some claim)) (none : entry_of claim.rowid entries ≡ None)
    (given : UsesNoMore places claim.chunk claim.slot emptied new) where
  still_used : (c s : ℕ) → is_used new c s ≡ cond (c == claim.chunk && s == claim.slot) false (is_used places c s)
  still_used c s = ap is_some (given.places c s) ∙ by_test (c == claim.chunk && s == claim.slot) where
    by_test : (t : Bool) → is_some (cond t None (partition_at places c s)) ≡ cond t false (is_used places c s)
    by_test true = refl
    by_test false = refl

  -- a used slot is at another place
  not_claimed : (c s : ℕ) → is_some (seen_at parts c s) ≡ true → (c == claim.chunk && s == claim.slot) ≡ false
  not_claimed c s seen = by_test (c == claim.chunk && s == claim.slot) refl where
    by_test : (t : Bool) → (c == claim.chunk && s == claim.slot) ≡ t → (c == claim.chunk && s == claim.slot) ≡ false
    by_test false at = at
    by_test true at = let never : false ≡ true = sym (ap is_some (tied.free c s at)) ∙ seen in absurd cc

  now_used : (c s : ℕ) → is_some (seen_at parts c s) ≡ true → is_used new c s ≡ true
  now_used c s seen = still_used c s ∙ cond-false _ _ _ (not_claimed c s seen) ∙ tied.placed c s seen

  -- the chunk of a used slot has the same partition values as before
  same_values : (c s : ℕ) → is_some (seen_at parts c s) ≡ true → partition_of_chunk new c ≡ partition_of_chunk places c
  same_values c s seen = given.chunks c ∙ by_test (c == claim.chunk && emptied) refl where
    by_test : (t : Bool) → (c == claim.chunk && emptied) ≡ t → cond t None (partition_of_chunk places c) ≡ partition_of_chunk places c
    by_test false is = refl
    by_test true is =
        let gone : has_chunk new c ≡ false = ap is_some (given.chunks c ∙ cond-true _ _ _ is) in
        let never : false ≡ true = sym gone ∙ chunk_used new c s (now_used c s seen) in
        absurd cc

  pub given-row : (e : Entry) → row_from parts new e ≡ row_from parts places e
  given-row e = by_slot (seen_at parts e.chunk e.slot) refl where
    by_slot : (o : Option UsedRow) → seen_at parts e.chunk e.slot ≡ o → row_in (partition_of_chunk new e.chunk) e o ≡ row_in (partition_of_chunk places e.chunk) e o
    by_slot None is = refl
    by_slot (Some used) is = ap (λ p. row_in p e (Some used)) (same_values e.chunk e.slot (ap is_some is))

  pub given-tied : AreTied parts new entries None
  given-tied = record {
    entered = tied.entered;
    placed = now_used;
    held = λ i x is other. ap is_some (given-row x) ∙ tied.held i x is (own i x is);
    used = λ c s is other. was c s is;
    claimed = λ c s never. absurd cc;
    free = λ c s never. absurd cc;
    absent = λ c s u seen. refl;
  } where
    own : (i : ℤ) (x : Entry) → entry_of i entries ≡ Some x → int_eq claim.rowid i ≡ false
    own i x is = by_test (int_eq claim.rowid i) refl where
      by_test : (t : Bool) → int_eq claim.rowid i ≡ t → int_eq claim.rowid i ≡ false
      by_test false h = h
      by_test true h = let never : None ≡ Some x = sym none ∙ ap (λ j. entry_of j entries) (eq_from claim.rowid i h) ∙ is in absurd cc

    was : (c s : ℕ) → is_used new c s ≡ true → is_some (seen_at parts c s) ≡ true
    was c s is = by_test (c == claim.chunk && s == claim.slot) refl where
      by_test : (t : Bool) → (c == claim.chunk && s == claim.slot) ≡ t → is_some (seen_at parts c s) ≡ true
      by_test true at = let never : true ≡ false = sym is ∙ still_used c s ∙ cond-true _ _ _ at in absurd cc
      by_test false at = tied.used c s (sym (still_used c s ∙ cond-false _ _ _ at) ∙ is) at

-- the same rows of entries, one by one
pub same_rows : (parts : List Part) (places new : PlaceMap) (entries : List Entry) → ((e : Entry) → row_from parts new e ≡ row_from parts places e) → rows_of parts new entries ≡ rows_of parts places entries
same_rows parts places new [] same = refl
same_rows parts places new (e ∷ es) same = rw (same e) (ap (cons_option (row_from parts places e)) (same_rows parts places new es same))

-- ---- a new entry, whether there was memory or not

none-has : (i : ℤ) (entries : List Entry) → entry_of i entries ≡ None → has_rowid i entries ≡ false
none-has i [] none = refl
none-has i (e ∷ es) none = by_test (int_eq e.rowid i) none (λ later. none-has i es later) where
  by_test : (t : Bool) → cond t (Some e) (entry_of i es) ≡ None → (entry_of i es ≡ None → has_rowid i es ≡ false) → (t || has_rowid i es) ≡ false
  by_test true h rest = absurd cc
  by_test false h rest = rest h

pub none-has_rowid : (i : ℤ) (entries : List Entry) → entry_of i entries ≡ None → has_rowid i entries ≡ false
none-has_rowid i entries none = none-has i entries none

abbrev pub entry_at : RowPlace → Option (List ℕ) → Entry
entry_at claim id = record { rowid = claim.rowid; chunk = claim.chunk; slot = claim.slot; id = id }

module _ (parts : List Part) (places : PlaceMap) (entries : List Entry) (claim : RowPlace) (id : Option (List ℕ))
    (tied : AreTied parts places entries (Some claim)) (none : entry_of claim.rowid entries ≡ None) where
  pub put-tied : (b : Bool) (new : List Entry) → new ≡ (if b then with_entry (entry_at claim id) entries else entries) → AreTied parts places new (Some claim)
  put-tied true new is = subst (λ es. AreTied parts places es (Some claim)) (sym is) (entered-tied parts places entries claim (entry_at claim id) tied none refl refl refl)
  put-tied false new is = subst (λ es. AreTied parts places es (Some claim)) (sym is) tied

  pub put-rows : (b : Bool) (new : List Entry) → new ≡ (if b then with_entry (entry_at claim id) entries else entries) → rows_of parts places new ≡ rows_of parts places entries
  put-rows true new is = ap (rows_of parts places) is ∙ entered-rows parts places entries claim (entry_at claim id) tied none refl refl refl
  put-rows false new is = ap (rows_of parts places) is

  pub put-entry : (r : Result Unit Memory) (new : List Entry) → new ≡ (if is_ok r then with_entry (entry_at claim id) entries else entries) → OnOk r (entry_of claim.rowid new ≡ Some (entry_at claim id))
  put-entry (Ok u) new is = ap (entry_of claim.rowid) is ∙ entered-entry parts places entries claim (entry_at claim id) tied none refl refl refl
  put-entry (Err e) new is = tt
