-- The place that a new row takes: its chunk is of the same partition values or new, and the place is free.
use Rattle.std.proofs.Common.{◌≡◌, ℕ, zero, suc, ◌<◌, Bool, true, false, List, refl, sym, ap, ◌∙◌, arith, Some}
use Rattle.std.specs.Prelude.{is_some}
use Rattle.std.proofs.lemmas.Bool.{cond-true}
use Rattle.vec_base.specs.declared.value.Value.{Value}
use Rattle.slot_alloc.specs.Changes.{UsesAlso}
use Rattle.slot_alloc.specs.Places.{PlaceMap, IsPlaceMap, has_chunk, is_used, partition_of_chunk}
use Rattle.slot_alloc.specs.SlotRule.{IsPlaceFor, chunk_of, slot_of}
use Rattle.slot_alloc.specs.declared.place.Place.{Place}
use Rattle.slot_alloc.specs.declared.place.Place.TheVariants.{Slot, NewChunk}
use Rattle.row_store.proofs.TieLaws.{chunk_used, same_number}
use Rattle.row_store.proofs.TouchLaws.{used-also}

pub fitting : (places : PlaceMap) (partition : List Value) (place : Place) → IsPlaceFor places partition place → has_chunk places (chunk_of place) ≡ true → partition_of_chunk places (chunk_of place) ≡ Some partition
fitting places partition (Slot c s) fits there = fits.chunk
fitting places partition (NewChunk c) fits there = let never : true ≡ false = sym there ∙ fits.unused in absurd cc

not_used : (places : PlaceMap) (c s : ℕ) → has_chunk places c ≡ false → is_used places c s ≡ false
not_used places c s none = by_test (is_used places c s) refl where
  by_test : (t : Bool) → is_used places c s ≡ t → t ≡ false
  by_test false e = refl
  by_test true e = let never : true ≡ false = sym (chunk_used places c s e) ∙ none in absurd cc

pub free_place : (places : PlaceMap) (partition : List Value) (place : Place) → IsPlaceFor places partition place → is_used places (chunk_of place) (slot_of place) ≡ false
free_place places partition (Slot c s) fits = fits.free
free_place places partition (NewChunk c) fits = not_used places c 0 fits.unused

pub values_now : (old new : PlaceMap) (c s : ℕ) (partition : List Value) → UsesAlso old c s partition new → partition_of_chunk new c ≡ Some partition
values_now old new c s partition also = also.chunks c ∙ cond-true _ _ _ (same_number c)

pub within_now : (old new : PlaceMap) (c s : ℕ) (partition : List Value) → UsesAlso old c s partition new → IsPlaceMap new → s < new.size
within_now old new c s partition also known = known.within c s (used-also old new c s partition also)

pub positive_now : (old new : PlaceMap) (c s : ℕ) (partition : List Value) → UsesAlso old c s partition new → IsPlaceMap new → 0 < c
positive_now old new zero s partition also known =
    let there : has_chunk new 0 ≡ true = ap is_some (values_now old new 0 s partition also) in
    let never : true ≡ false = sym there ∙ known.positive in
    absurd cc
positive_now old new (suc c) s partition also known = omega arith
