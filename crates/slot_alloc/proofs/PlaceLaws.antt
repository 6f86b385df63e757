-- What the used places say of their chunks, and how the index goes on listing the chunks with a free slot.
use Rattle.std.proofs.Common.{◌≡◌, ℕ, ◌<◌, ◌==◌, ◌&&◌, Bool, true, false, cond, is_some, List, Option, Some, None, get_or, refl, sym, ap, ◌∙◌, ◌⊎◌, ⊎_elim}
use Rattle.std.specs.List.{Contains}
use Rattle.std.proofs.lemmas.Bool.{eq-eqb, eqb-true, cond-true, cond-false}
use Rattle.vec_base.specs.declared.value.Value.{Value}
use Rattle.slot_alloc.specs.declared.chunk.Chunk.{Chunk}
use Rattle.slot_alloc.specs.declared.spare.Spare.{Spare}
use Rattle.slot_alloc.specs.Places.{PlaceMap, IsPlaceMap, chunk_with, partition_in, partition_in_slot, partition_of_chunk, partition_at, has_chunk, is_used, IsFull}
use Rattle.slot_alloc.specs.Changes.{UsesAlso, UsesNoMore}
use Rattle.slot_alloc.specs.inner.Kept.{ListsSpare}
use Rattle.slot_alloc.proofs.SpareLaws.{entry}

-- a chunk whose used places have these values has them itself
pub values_of_chunk : (places : PlaceMap) (c : ℕ) (p : List Value) → IsPlaceMap places → has_chunk places c ≡ true → ((t : ℕ) (q : List Value) → partition_at places c t ≡ Some q → q ≡ p) → partition_of_chunk places c ≡ Some p
values_of_chunk places c p known there values =
    let used = known.occupied c there in
    by (chunk_with places.chunks c) used.0 used.1 (values used.0)
  where
    slot : (q : List Value) (b : Bool) → is_some (cond b (Some q) None) ≡ true → ((r : List Value) → cond b (Some q) None ≡ Some r → r ≡ p) → Some q ≡ Some p
    slot q true is same = ap (λ r. Some r) (same q refl)
    slot q false is same = absurd cc

    by : (o : Option Chunk) (s : ℕ) → is_some (partition_in_slot o s) ≡ true → ((q : List Value) → partition_in_slot o s ≡ Some q → q ≡ p) → partition_in o ≡ Some p
    by None s is same = absurd cc
    by (Some x) s is same = slot x.partition (get_or x.used s false) is same

-- a chunk without an entry is full
pub full_chunk : (places : PlaceMap) (es : List Spare) (p : List Value) (d : ℕ) → ListsSpare places es → (Contains es (entry p d) → ⊥) → partition_of_chunk places d ≡ Some p → IsFull places d
full_chunk places es p d lists none is t lt = by (is_used places d t) refl
  where
    by : (b : Bool) → is_used places d t ≡ b → is_used places d t ≡ true
    by true e = e
    by false e = absurd (none (lists.listed d t p is lt e))

-- the entry of a chunk that is gone may go
pub lists-emptied : (old new : PlaceMap) (es rest : List Spare) (p : List Value) (c s : ℕ) → ListsSpare old es → UsesNoMore old c s true new →
    ((e : Spare) → Contains es e → (e ≡ entry p c) ⊎ Contains rest e) → ListsSpare new rest
lists-emptied old new es rest p c s lists change others = record { listed = λ d t q is lt free. by d t q is lt free (d == c) refl }
  where
    by : (d t : ℕ) (q : List Value) → partition_of_chunk new d ≡ Some q → t < new.size → is_used new d t ≡ false → (b : Bool) → (d == c) ≡ b → Contains rest (entry q d)
    by d t q is lt free true e = (let gone = change.chunks d ∙ cond-true (d == c && true) None _ (ap (λ b. b && true) e) in absurd cc)
    by d t q is lt free false e =
        (let same : partition_of_chunk old d ≡ Some q = sym (change.chunks d ∙ cond-false (d == c && true) None _ (ap (λ b. b && true) e)) ∙ is in
        let place : partition_at old d t ≡ partition_at new d t = sym (change.places d t ∙ cond-false (d == c && t == s) None _ (ap (λ b. b && t == s) e)) in
        let within : t < old.size = (let n = change.size in rw (sym n) lt) in
        ⊎_elim
        (λ (gone : entry q d ≡ entry p c). (let n : (d == c) ≡ true = eq-eqb d c (ap (λ (f : Spare). f.number) gone) in absurd cc))
        (λ still. still)
        (others (entry q d) (lists.listed d t q same within (ap is_some place ∙ free))))

-- no slot is free that was not
pub lists-used : (old new : PlaceMap) (es : List Spare) (p : List Value) (c s : ℕ) → ListsSpare old es → UsesAlso old c s p new → partition_of_chunk old c ≡ Some p → ListsSpare new es
lists-used old new es p c s lists change has = record {
  listed = λ d t q is lt free.
      lists.listed d t q (before d (d == c) refl ∙ is) (let n = change.size in rw (sym n) lt) (clear d t (d == c && t == s) (ap is_some (sym (change.places d t)) ∙ free));
}
  where
    before : (d : ℕ) (b : Bool) → (d == c) ≡ b → partition_of_chunk old d ≡ partition_of_chunk new d
    before d true e = ap (partition_of_chunk old) (eqb-true d c e) ∙ has ∙ sym (change.chunks d ∙ cond-true (d == c) (Some p) _ e)
    before d false e = sym (change.chunks d ∙ cond-false (d == c) (Some p) _ e)

    clear : (d t : ℕ) (b : Bool) → is_some (cond b (Some p) (partition_at old d t)) ≡ false → is_used old d t ≡ false
    clear d t true e = absurd cc
    clear d t false e = e
