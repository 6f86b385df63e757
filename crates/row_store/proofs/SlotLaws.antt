-- What a slot holds when its row changes, and how many slots are used.
use Rattle.std.proofs.Common.{◌≡◌, ℕ, zero, suc, ◌+◌, ◌<◌, true, cond, List, [], ◌∷◌, length, refl, sym, ap, ◌∙◌, arith, subst, Some, None}
use Rattle.std.specs.Prelude.{map, is_some, slice_get, slice_index, slice_set}
use Rattle.std.specs.List.{count_by}
use Rattle.std.specs.Option.{option_map}
use Rattle.std.specs.declared.option.Option.{Option}
use Rattle.std.proofs.lemmas.List.Sums.{sum_by-cons}
use Rattle.row_model.specs.declared.schema.Kind.{Kind}
use Rattle.row_chunks.specs.RowSlots.{UsedRow, slot_at, vectors_alone}
use Rattle.shared_leaves.specs.Edits.{edited_at}
use Rattle.row_store.specs.declared.part.Part.{Part}
use Rattle.row_store.specs.declared.part.RowChange.{RowChange}
use Rattle.row_store.specs.declared.part.RowChange.TheVariants.{Vector, Cell}
use Rattle.row_store.specs.declared.shape.Shape.{Shape}
use Rattle.row_store.specs.inner.Changes.{slot_changed, Fits, CanChange}
use Rattle.row_store.specs.inner.Parts.{part_of, seen_at, seen_in, numbers_rise, with_content, HasShape, IsChangedAt, KeepShapes}
use Rattle.row_store.proofs.PartLaws.{IsFound, part_of-number, used_within, placed-shape, changed-at, edited-shapes}

-- ---- counts

counted : {A : Type 0} (o : Option A) (xs : List (Option A)) → count_by is_some (o ∷ xs) ≡ cond (is_some o) 1 0 + count_by is_some xs
counted {A} o xs = sum_by-cons {X = Option A} (λ y. cond (is_some y) 1 0) o xs

-- as many slots are used with their cells as without
pub count-plain : (xs : List (Option UsedRow)) → count_by is_some (map (λ slot. option_map vectors_alone slot) xs) ≡ count_by is_some xs
count-plain [] = refl
count-plain (None ∷ xs) = count-plain xs
count-plain (Some u ∷ xs) =
    counted (Some (vectors_alone u)) (map (λ slot. option_map vectors_alone slot) xs) ∙ ap (λ n. 1 + n) (count-plain xs) ∙ sym (counted (Some u) xs)

-- ---- one vector set

widths-set : (vectors : List (List ℕ)) (widths : List ℕ) (column : ℕ) (vector : List ℕ) → map length vectors ≡ widths → column < length widths → length vector ≡ slice_index widths column →
    map length (slice_set vectors column vector) ≡ widths
widths-set [] widths column vector fits lt same = fits
widths-set (v ∷ vs) [] column vector fits lt same = absurd (omega (arith, lt))
widths-set (v ∷ vs) (w ∷ ws) zero vector fits lt same = rw same (ap (λ l. w ∷ l) (tail fits)) where
  tail : length v ∷ map length vs ≡ w ∷ ws → map length vs ≡ ws
  tail e = cc
widths-set (v ∷ vs) (w ∷ ws) (suc column) vector fits lt same = both (head fits) (widths-set vs ws column vector (tail fits) (omega arith) same) where
  head : length v ∷ map length vs ≡ w ∷ ws → length v ≡ w
  head e = cc

  tail : length v ∷ map length vs ≡ w ∷ ws → map length vs ≡ ws
  tail e = cc

  both : length v ≡ w → map length (slice_set vs column vector) ≡ ws → length v ∷ map length (slice_set vs column vector) ≡ w ∷ ws
  both e f = rw (e, f) refl

-- ---- the row of a slot changed

-- what is made of a row in its slot
pub record IsChangedRow (widths : List ℕ) (change : RowChange) (old : UsedRow) : Type 0 where
  pub new : UsedRow
  pub is : slot_changed change (Some old) ≡ Some new
  pub same : new.rowid ≡ old.rowid
  pub fits : map length new.vectors ≡ widths

pub changed-row : (widths : List ℕ) (kinds : List Kind) (change : RowChange) (old : UsedRow) → map length old.vectors ≡ widths → Fits widths kinds change → IsChangedRow widths change old
changed-row widths kinds (Vector column vector) old wide fits = record {
  new = record { rowid = old.rowid; vectors = slice_set old.vectors column vector.now; cells = old.cells };
  is = refl;
  same = refl;
  fits = widths-set old.vectors widths column vector.now wide fits.0 fits.1;
}
changed-row widths kinds (Cell index value) old wide fits = record {
  new = record { rowid = old.rowid; vectors = old.vectors; cells = slice_set old.cells index value.now };
  is = refl;
  same = refl;
  fits = wide;
}

-- what changes an item in the same way changes the list in the same way
edited-alike : {A : Type 0} (f g : A → A) (at : ℕ) (xs : List A) (x : A) → slice_get xs at ≡ Some x → f x ≡ g x → edited_at f at xs ≡ edited_at g at xs
edited-alike f g at [] x there same = refl
edited-alike f g zero (y ∷ ys) x there same = let y_is : y ≡ x = cc in ap (λ z. z ∷ ys) (ap f y_is ∙ same ∙ ap g (sym y_is))
edited-alike f g (suc at) (y ∷ ys) x there same = ap (λ l. y ∷ l) (edited-alike f g at ys x there same)

-- the row in the slot of a part changes, whose vectors are as wide as all
changed-shape : (alike : Shape) (slot : ℕ) (change : RowChange) (x : Part) → CanChange slot change x → HasShape alike x → HasShape alike (with_content slot (slot_changed change (slot_at x.slots slot)) x)
changed-shape alike slot change x can shape = by_slot (slot_at x.slots slot) refl can.used where
  by_slot : (o : Option UsedRow) → slot_at x.slots slot ≡ o → is_some o ≡ true → HasShape alike (with_content slot (slot_changed change o) x)
  by_slot None is used = absurd cc
  by_slot (Some old) is used =
      let wide : map length old.vectors ≡ x.slots.widths = shape.vectors slot old is ∙ sym shape.wide in
      let to = changed-row x.slots.widths x.slots.kinds change old wide can.fits in
      subst (λ o. HasShape alike (with_content slot o x)) (sym to.is) (placed-shape alike slot to.new x (used_within x.slots.slots slot can.used) to.fits shape)

abbrev pub change_at : ℕ → RowChange → Part → Part
change_at slot change part = with_content slot (slot_changed change (slot_at part.slots slot)) part

pub altered_at : (parts new : List Part) (at c slot : ℕ) (change : RowChange) → numbers_rise parts ≡ true → IsFound parts c at → is_some (seen_at parts c slot) ≡ true →
    ((x : Part) → part_of parts c ≡ Some x → Fits x.slots.widths x.slots.kinds change) →
    new ≡ edited_at (change_at slot change) at parts → IsChangedAt c slot (slot_changed change (seen_at parts c slot)) parts new × KeepShapes parts new
altered_at parts new at c slot change rise found used fits is =
    let x = found.part in
    let can : CanChange slot change x = record { used = ap (λ o. is_some (seen_in o slot)) (sym found.named) ∙ used; fits = fits x found.named } in
    let content : Option UsedRow = slot_changed change (slot_at x.slots slot) in
    let within = used_within x.slots.slots slot can.used in
    let now : new ≡ edited_at (with_content slot content) at parts = is ∙ edited-alike (change_at slot change) (with_content slot content) at parts x found.there refl in
    let shape = λ (alike : Shape) (h : HasShape alike x). changed-shape alike slot change x can h in
    let number : x.number ≡ c = part_of-number parts c x found.named in
    let seen : slot_at x.slots slot ≡ seen_at parts c slot = sym (ap (λ o. seen_in o slot) found.named) in (
      rw (now, sym seen, sym number) (changed-at parts at slot x content rise found.there within shape),
      rw now (edited-shapes parts at slot x content rise found.there within shape),
    )
