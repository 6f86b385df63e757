-- The row of an entry that is found: its slot is used by its rowid.
use Rattle.std.proofs.Common.{◌≡◌, ℕ, zero, suc, ℤ, ◌<◌, true, false, List, refl, sym, ap, ◌∙◌, arith, Some, None}
use Rattle.std.specs.Prelude.{is_some}
use Rattle.std.specs.Option.{option_map, option_and_then}
use Rattle.std.specs.declared.option.Option.{Option}
use Rattle.row_chunks.specs.RowSlots.{UsedRow}
use Rattle.row_index.specs.Entries.{entry_of, place_of, is_rising}
use Rattle.row_index.specs.declared.entry.Entry.{Entry}
use Rattle.slot_alloc.specs.Places.{PlaceMap, IsPlaceMap}
use Rattle.row_store.specs.StoredRows.{row_of}
use Rattle.row_store.specs.declared.part.Part.{Part}
use Rattle.row_store.specs.inner.Parts.{seen_at}
use Rattle.row_store.specs.inner.Views.{row_from, rows_of, AreTied}
use Rattle.row_store.proofs.TieLaws.{some_is, chunk_used, eq_from, entry-rowid}
use Rattle.row_store.proofs.ViewLaws.{row_of-entry, row-told}

abbrev place_in : Entry → ℕ × ℕ
place_in e = (e.chunk, e.slot)

module _ (parts : List Part) (places : PlaceMap) (entries : List Entry)
    (tied : AreTied parts places entries None) (rise : is_rising entries ≡ true) where
  pub not-found : (i : ℤ) → place_of i entries ≡ None → row_of i (rows_of parts places entries) ≡ None
  not-found i none = row_of-entry parts places entries None tied rise i ∙ by_entry (entry_of i entries) none where
    by_entry : (o : Option Entry) → option_map place_in o ≡ None → option_and_then (row_from parts places) o ≡ None
    by_entry None h = refl
    by_entry (Some e) h = absurd cc

  -- what an entry that is found tells
  pub record IsFoundEntry (i : ℤ) (chunk slot : ℕ) : Type 0 where
    pub used : UsedRow
    pub seen : seen_at parts chunk slot ≡ Some used
    pub same : used.rowid ≡ i

  pub found : (i : ℤ) (chunk slot : ℕ) → place_of i entries ≡ Some (chunk, slot) → IsFoundEntry i chunk slot
  found i chunk slot is = by_entry (entry_of i entries) refl is where
    by_entry : (o : Option Entry) → entry_of i entries ≡ o → option_map place_in o ≡ Some (chunk, slot) → IsFoundEntry i chunk slot
    by_entry None there h = absurd cc
    by_entry (Some e) there h =
        let pair : ◌≡◌ {A = ℕ × ℕ} (e.chunk, e.slot) (chunk, slot) = cc in
        let c_is : e.chunk ≡ chunk = ap (λ p. p.0) pair in
        let s_is : e.slot ≡ slot = ap (λ p. p.1) pair in
        let r = some_is (row_from parts places e) (tied.held i e there refl) in
        let told = row-told parts places e r.0 r.1 in
        record {
          used = told.used;
          seen = ap (λ c. seen_at parts c slot) (sym c_is) ∙ ap (seen_at parts e.chunk) (sym s_is) ∙ told.seen;
          same = told.own ∙ eq_from e.rowid i (entry-rowid i entries e there);
        }

  pub found-within : (known : IsPlaceMap places) (i : ℤ) (chunk slot : ℕ) → IsFoundEntry i chunk slot → slot < places.size
  found-within known i chunk slot f = known.within chunk slot (tied.placed chunk slot (ap is_some f.seen))

  pub found-positive : (known : IsPlaceMap places) (i : ℤ) (chunk slot : ℕ) → IsFoundEntry i chunk slot → 0 < chunk
  found-positive known i zero slot f =
      let there = chunk_used places 0 slot (tied.placed 0 slot (ap is_some f.seen)) in
      let never : true ≡ false = sym there ∙ known.positive in
      absurd cc
  found-positive known i (suc chunk) slot f = omega arith
