-- What becomes of the used places where a chunk is put in, taken out or changed.
use Rattle.std.proofs.Common.{◌≡◌, ℕ, ◌<◌, ◌≤◌, ◌==◌, ◌&&◌, Bool, true, false, cond, if◌then◌else◌, ltb, is_some, List, length, get_or, set, replicate, Option, Some, None, MatchOption, refl, sym, ap, ap₂, ◌∙◌, ⊎_elim, arith, length-set}
use Rattle.std.specs.List.{Contains, insert, remove}
use Rattle.std.proofs.lemmas.Bool.{cases_eq, cases_lt, eqb-true, eqb-false, cond-false, false≢true}
use Rattle.std.proofs.lemmas.List.{get_or_default, get_or_past, get_or-set_same, get_or-set_other, get_or-replicate, length-replicate}
use Rattle.std.proofs.lemmas.List.Quantifiers.{all_pairs_remove}
use Rattle.std.proofs.lemmas.List.Elements.{All-get_or}
use Rattle.vec_base.specs.declared.value.Value.{Value}
use Rattle.shared_leaves.specs.Edits.{edited_at}
use Rattle.slot_alloc.specs.declared.chunk.Chunk.{Chunk}
use Rattle.slot_alloc.specs.Places.{chunk_with, partition_in, partition_in_slot, IsPlaceMap}
use Rattle.slot_alloc.specs.Changes.{UsesAlso, UsesNoMore}
use Rattle.slot_alloc.specs.inner.Kept.{IsChunk, AreChunks}
use Rattle.slot_alloc.specs.inner.Searches.{IsSplitPlace}
use Rattle.slot_alloc.proofs.ListLaws.{all-insert, all-remove, all-edited, pairs-insert}
use Rattle.slot_alloc.proofs.ChunkLaws.{number_at, with-at, with-none, with-some, with-insert, with-remove, with-edited, rise-edited, below_at, from_at}

-- ---- one chunk becomes another one, and all others are as before

module _ (xs ys : List Chunk) (c : ℕ) (o : Option Chunk) (one : (d : ℕ) → chunk_with ys d ≡ (if d == c then o else chunk_with xs d)) where
  chunks_changed : (q : Option (List Value)) → partition_in o ≡ q → (d : ℕ) → partition_in (chunk_with ys d) ≡ (if d == c then q else partition_in (chunk_with xs d))
  chunks_changed q is d = ap partition_in (one d) ∙ by (d == c)
    where
      by : (t : Bool) → partition_in (cond t o (chunk_with xs d)) ≡ cond t q (partition_in (chunk_with xs d))
      by true = is
      by false = refl

  chunks_kept : partition_in o ≡ partition_in (chunk_with xs c) → (d : ℕ) → partition_in (chunk_with ys d) ≡ partition_in (chunk_with xs d)
  chunks_kept is d = chunks_changed (partition_in (chunk_with xs c)) is d ∙ by (d == c) refl
    where
      by : (t : Bool) → (d == c) ≡ t → cond t (partition_in (chunk_with xs c)) (partition_in (chunk_with xs d)) ≡ partition_in (chunk_with xs d)
      by true t = ap (λ n. partition_in (chunk_with xs n)) (sym (eqb-true d c t))
      by false t = refl

  places_changed : (s : ℕ) (q : Option (List Value)) → ((t : ℕ) → partition_in_slot o t ≡ (if t == s then q else partition_in_slot (chunk_with xs c) t)) →
      (d t : ℕ) → partition_in_slot (chunk_with ys d) t ≡ (if d == c && t == s then q else partition_in_slot (chunk_with xs d) t)
  places_changed s q slots d t = ap (λ x. partition_in_slot x t) (one d) ∙ by (d == c) refl
    where
      by : (b : Bool) → (d == c) ≡ b → partition_in_slot (cond b o (chunk_with xs d)) t ≡ cond (b && t == s) q (partition_in_slot (chunk_with xs d) t)
      by true e = slots t ∙ ap (λ n. if t == s then q else partition_in_slot (chunk_with xs n) t) (sym (eqb-true d c e))
      by false e = refl

-- ---- bits of a chunk

-- what a bit says of a slot, where one bit is set
bit_set : (bits : List Bool) (s t : ℕ) (v : Bool) (p q : Option (List Value)) → s < length bits → cond v p None ≡ q →
    cond (get_or (set bits s v) t false) p None ≡ (if t == s then q else cond (get_or bits t false) p None)
bit_set bits s t v p q lt is = by (t == s) refl
  where
    by : (b : Bool) → (t == s) ≡ b → cond (get_or (set bits s v) t false) p None ≡ cond b q (cond (get_or bits t false) p None)
    by true e =
        ap (λ n. cond (get_or (set bits s v) n false) p None) (eqb-true t s e) ∙ ap (λ b. cond b p None) (get_or-set_same bits s v false lt) ∙ is
    by false e = ap (λ b. cond b p None) (get_or-set_other bits s t v false (eqb-false t s e))

no_bit : (n t : ℕ) → get_or (replicate n false) t false ≡ false
no_bit n t =
    ⊎_elim
    (λ (lt : t < n). get_or-replicate n t false false lt)
    (λ (ge : n ≤ t). get_or_past (replicate n false) t false (let e = length-replicate n false in omega (arith, ge, e)))
    (cases_lt t n)

bit_there : (bits : List Bool) (s : ℕ) → s < length bits → get_or bits s false ≡ true → Contains bits true
bit_there bits s lt is = (s, lt, get_or_default bits s true false lt ∙ is)

pub contains-set : (bits : List Bool) (s : ℕ) → s < length bits → Contains (set bits s true) true
contains-set bits s lt = (s, (let e = length-set bits s true in omega (arith, lt, e)), get_or-set_same bits s true true lt)

pub contains-kept : (bits : List Bool) (s t : ℕ) → t < length bits → (t ≡ s → ⊥) → get_or bits t false ≡ true → Contains (set bits s false) true
contains-kept bits s t lt other is =
    bit_there (set bits s false) t (let e = length-set bits s false in omega (arith, lt, e)) (get_or-set_other bits s t false false other ∙ is)

-- ---- the marks of a slot

abbrev pub marked : ℕ → Bool → Chunk → Chunk
marked s v x = record { number = x.number; partition = x.partition; used = set x.used s v }

marked_chunk : (size s : ℕ) (v : Bool) (x : Chunk) → IsChunk size x → Contains (set x.used s v) true → IsChunk size (marked s v x)
marked_chunk size s v x is used = record { positive = is.positive; sized = length-set x.used s v ∙ is.sized; occupied = used }

pub chunks-marked : (size : ℕ) (xs : List Chunk) (at s : ℕ) (v : Bool) → AreChunks size xs → ((d : Chunk) → at < length xs → Contains (set (get_or xs at d).used s v) true) → AreChunks size (edited_at (marked s v) at xs)
chunks-marked size xs at s v are used = record {
  fits = are.fits;
  rise = rise-edited (marked s v) (λ x. refl) xs at are.rise;
  each = all-edited (IsChunk size) (marked s v) xs at are.each (λ d lt. marked_chunk size s v (get_or xs at d) (All-get_or (IsChunk size) xs at d lt are.each) (used d lt));
}

module _ (size : ℕ) (xs : List Chunk) (at c s : ℕ) (x : Chunk) (are : AreChunks size xs) (lt : at < length xs) (is : x ≡ get_or xs at x) (number : x.number ≡ c) (within : s < size) where
  its_number : number_at xs at x ≡ c
  its_number = ap (λ (y : Chunk). y.number) (sym is) ∙ number

  its_chunk : chunk_with xs c ≡ Some x
  its_chunk = with-at xs at c x are.rise lt its_number ∙ ap (λ y. Some y) (sym is)

  its_kind : IsChunk size x
  its_kind = rw is (All-get_or (IsChunk size) xs at x lt are.each)

  its_slot : s < length x.used
  its_slot = let e = its_kind.sized in omega (arith, e, within)

  one_marked : (v : Bool) (d : ℕ) → chunk_with (edited_at (marked s v) at xs) d ≡ (if d == c then Some (marked s v x) else chunk_with xs d)
  one_marked v d =
      with-edited (marked s v) (λ y. refl) xs at d x are.rise lt
      ∙ ap₂ (λ n y. if d == n then Some (marked s v y) else chunk_with xs d) its_number (sym is)

  slots_marked : (v : Bool) (q : Option (List Value)) → cond v (Some x.partition) None ≡ q → (t : ℕ) → partition_in_slot (Some (marked s v x)) t ≡ (if t == s then q else partition_in_slot (chunk_with xs c) t)
  slots_marked v q e t =
      bit_set x.used s t v (Some x.partition) q its_slot e ∙ ap (λ o. if t == s then q else partition_in_slot o t) (sym its_chunk)

  pub uses-marked : (p : List Value) → partition_in (chunk_with xs c) ≡ Some p → UsesAlso (record { size = size; chunks = xs }) c s p (record { size = size; chunks = edited_at (marked s true) at xs })
  uses-marked p has =
      let same : Some x.partition ≡ Some p = ap partition_in (sym its_chunk) ∙ has in
      record {
        size = refl;
        places = places_changed xs (edited_at (marked s true) at xs) c (Some (marked s true x)) (one_marked true) s (Some p) (slots_marked true (Some p) same);
        chunks = chunks_changed xs (edited_at (marked s true) at xs) c (Some (marked s true x)) (one_marked true) (Some p) same;
      }

  pub uses_no_more-marked : UsesNoMore (record { size = size; chunks = xs }) c s false (record { size = size; chunks = edited_at (marked s false) at xs })
  uses_no_more-marked = record {
    size = refl;
    places = places_changed xs (edited_at (marked s false) at xs) c (Some (marked s false x)) (one_marked false) s None (slots_marked false None refl);
    chunks = λ d. chunks_kept xs (edited_at (marked s false) at xs) c (Some (marked s false x)) (one_marked false) (ap partition_in (sym its_chunk)) d
        ∙ sym (cond-false (d == c && false) None (partition_in (chunk_with xs d)) (and_false (d == c)));
  }
    where
      and_false : (b : Bool) → (b && false) ≡ false
      and_false true = refl
      and_false false = refl

  one_removed : (d : ℕ) → chunk_with (remove xs at) d ≡ (if d == c then None else chunk_with xs d)
  one_removed d = with-remove xs at d x are.rise lt ∙ ap (λ n. if d == n then None else chunk_with xs d) its_number

  pub uses_no_more-removed : ((t : ℕ) → get_or x.used t false ≡ true → t ≡ s) → UsesNoMore (record { size = size; chunks = xs }) c s true (record { size = size; chunks = remove xs at })
  uses_no_more-removed only = record {
    size = refl;
    places = places_changed xs (remove xs at) c None one_removed s None (λ t. by t (t == s) refl ∙ ap (λ o. if t == s then None else partition_in_slot o t) (sym its_chunk));
    chunks = λ d. chunks_changed xs (remove xs at) c None one_removed None refl d ∙ ap (λ b. if b then None else partition_in (chunk_with xs d)) (sym (and_true (d == c)));
  }
    where
      and_true : (b : Bool) → (b && true) ≡ b
      and_true true = refl
      and_true false = refl

      clear : (t : ℕ) → (t ≡ s → ⊥) → (b : Bool) → get_or x.used t false ≡ b → None ≡ cond b (Some x.partition) None
      clear t other true e = absurd (other (only t e))
      clear t other false e = refl

      by : (t : ℕ) (b : Bool) → (t == s) ≡ b → None ≡ cond b None (partition_in_slot (Some x) t)
      by t true e = refl
      by t false e = clear t (eqb-false t s e) (get_or x.used t false) refl

-- ---- a new chunk

module _ (size : ℕ) (xs : List Chunk) (at c s : ℕ) (y : Chunk) (are : AreChunks size xs) (place : IsSplitPlace (λ _ x. ltb x.number c) xs at) (number : y.number ≡ c) (used : y.used ≡ set (replicate size false) s true) (within : s < size) (fresh : partition_in (chunk_with xs c) ≡ None) where
  lower : (k : ℕ) (e : Chunk) → k < at → number_at xs k e < y.number
  lower k e lt = let h = below_at c xs at are.rise place k e lt in omega (arith, h, number)

  nothing : (o : Option Chunk) → partition_in o ≡ None → o ≡ None
  nothing None e = refl
  nothing (Some x) e = absurd cc

  not_there : chunk_with xs c ≡ None
  not_there = nothing (chunk_with xs c) fresh

  higher : (k : ℕ) (e : Chunk) → at ≤ k → k < length xs → y.number < number_at xs k e
  higher k e le lt =
      ⊎_elim
      (λ (same : number_at xs k e ≡ c). (let there = with-at xs k c e are.rise lt same in absurd cc))
      (λ (other : number_at xs k e ≡ c → ⊥). let h = from_at c xs at are.rise place k e le lt in omega (arith, h, other, number))
      (cases_eq (number_at xs k e) c)

  slots : s < length (replicate size false)
  slots = let e = length-replicate size false in omega (arith, e, within)

  pub chunks-inserted : 0 < c → AreChunks size (insert xs at y)
  chunks-inserted positive = record {
    fits = are.fits;
    rise = pairs-insert (λ x y. x.number < y.number) xs at y are.rise place.within lower higher;
    each = all-insert (IsChunk size) xs at y are.each (record {
      positive = omega (arith, positive, number);
      sized = ap length used ∙ length-set (replicate size false) s true ∙ length-replicate size false;
      occupied = rw used (contains-set (replicate size false) s slots);
    });
  }

  one_inserted : (d : ℕ) → chunk_with (insert xs at y) d ≡ (if d == c then Some y else chunk_with xs d)
  one_inserted d = with-insert xs at y d place.within lower ∙ ap (λ n. if d == n then Some y else chunk_with xs d) number

  slots_inserted : (p : List Value) → y.partition ≡ p → (t : ℕ) → partition_in_slot (Some y) t ≡ (if t == s then Some p else partition_in_slot (chunk_with xs c) t)
  slots_inserted p e t =
      ap₂ (λ bits q. cond (get_or bits t false) (Some q) None) used e
      ∙ bit_set (replicate size false) s t true (Some p) (Some p) slots refl
      ∙ ap (λ b. if t == s then Some p else cond b (Some p) None) (no_bit size t)
      ∙ ap (λ o. if t == s then Some p else partition_in_slot o t) (sym not_there)

  pub uses-inserted : (p : List Value) → y.partition ≡ p → UsesAlso (record { size = size; chunks = xs }) c s p (record { size = size; chunks = insert xs at y })
  uses-inserted p e = record {
    size = refl;
    places = places_changed xs (insert xs at y) c (Some y) one_inserted s (Some p) (slots_inserted p e);
    chunks = chunks_changed xs (insert xs at y) c (Some y) one_inserted (Some p) (ap (λ q. Some q) e);
  }

pub chunks-removed : (size : ℕ) (xs : List Chunk) (at : ℕ) → AreChunks size xs → at < length xs → AreChunks size (remove xs at)
chunks-removed size xs at are lt = record {
  fits = are.fits;
  rise = all_pairs_remove (λ x y. x.number < y.number) xs at lt are.rise;
  each = all-remove (IsChunk size) xs at are.each;
}

-- ---- what is so of every table

pub place_map : (size : ℕ) (xs : List Chunk) → AreChunks size xs → IsPlaceMap (record { size = size; chunks = xs })
place_map size xs are = record {
  size = are.fits;
  rise = are.rise;
  positive = ap (λ o. is_some (partition_in o)) (with-none xs 0 (λ k d lt e. (let h = (All-get_or (IsChunk size) xs k d lt are.each).positive in absurd (omega (arith, h, e)))));
  within = λ c s used. inner c s (chunk_with xs c) refl used;
  alike = λ c s p is. alike p (chunk_with xs c) s is;
  occupied = λ c there. some_used c (chunk_with xs c) refl there;
}
  where
    kind : (c : ℕ) (x : Chunk) → chunk_with xs c ≡ Some x → IsChunk size x
    kind c x e = (let w = with-some xs c x e in rw (sym w.is) (All-get_or (IsChunk size) xs w.at x w.within are.each))

    slot : (bits : List Bool) (p : List Value) (s : ℕ) (b : Bool) → get_or bits s false ≡ b → is_some (cond b (Some p) None) ≡ true → s < length bits
    slot bits p s true e t =
        ⊎_elim
        (λ (lt : s < length bits). lt)
        (λ (ge : length bits ≤ s). absurd (false≢true (sym (get_or_past bits s false ge) ∙ e)))
        (cases_lt s (length bits))
    slot bits p s false e t = absurd cc

    alike_slot : (p q : List Value) (b : Bool) → cond b (Some q) None ≡ Some p → Some q ≡ Some p
    alike_slot p q true e = e
    alike_slot p q false e = absurd cc

    alike : (p : List Value) (o : Option Chunk) (s : ℕ) → partition_in_slot o s ≡ Some p → partition_in o ≡ Some p
    alike p None s e = absurd cc
    alike p (Some x) s e = alike_slot p x.partition (get_or x.used s false) e

    inner : (c s : ℕ) (o : Option Chunk) → chunk_with xs c ≡ o → is_some (partition_in_slot o s) ≡ true → s < size
    inner c s None e t = absurd cc
    inner c s (Some x) e t = (let a = slot x.used x.partition s (get_or x.used s false) refl t in let b = (kind c x e).sized in omega (arith, a, b))

    some_used : (c : ℕ) (o : Option Chunk) → chunk_with xs c ≡ o → is_some (partition_in o) ≡ true → (s : ℕ) × (is_some (partition_in_slot o s) ≡ true)
    some_used c None e t = absurd cc
    some_used c (Some x) e t =
        (let there = (kind c x e).occupied in (there.0, ap (λ b. is_some (cond b (Some x.partition) None)) (get_or_default x.used there.0 false true there.1 ∙ there.2)))

-- ---- what a used place says of its chunk

pub slot_short : (size : ℕ) (xs : List Chunk) (c s : ℕ) → AreChunks size xs → is_some (partition_in_slot (chunk_with xs c) s) ≡ true → s < size
slot_short size xs c s are used = (place_map size xs are).within c s used

used_bit : (o : Option Chunk) (x : Chunk) (s : ℕ) → o ≡ Some x → is_some (partition_in_slot o s) ≡ get_or x.used s false
used_bit o x s e = ap (λ p. is_some (partition_in_slot p s)) e ∙ by (get_or x.used s false)
  where
    by : (b : Bool) → is_some (cond b (Some x.partition) None) ≡ b
    by true = refl
    by false = refl

pub used_is : (xs : List Chunk) (c s : ℕ) (x : Chunk) → chunk_with xs c ≡ Some x → is_some (partition_in_slot (chunk_with xs c) s) ≡ get_or x.used s false
used_is xs c s x e = used_bit (chunk_with xs c) x s e

-- what a bit of a chunk says of its slot
pub at_slot : (xs : List Chunk) (c s : ℕ) (x : Chunk) (b : Bool) → chunk_with xs c ≡ Some x → get_or x.used s false ≡ b → partition_in_slot (chunk_with xs c) s ≡ cond b (Some x.partition) None
at_slot xs c s x b e is = ap (λ o. partition_in_slot o s) e ∙ ap (λ v. cond v (Some x.partition) None) is

-- the least free slot of a chunk of these values
pub free_found : (size : ℕ) (xs : List Chunk) (c : ℕ) (p : List Value) (x : Chunk) (r : Option ℕ) → chunk_with xs c ≡ Some x → x.partition ≡ p → length x.used ≡ size →
    MatchOption r ((t : ℕ) → t < length x.used → get_or x.used t false ≡ true) (λ free. (free < length x.used) × (get_or x.used free false ≡ false) × ((t : ℕ) → t < free → get_or x.used t false ≡ true)) →
    MatchOption r
    (partition_in (chunk_with xs c) ≡ Some p → (t : ℕ) → t < size → is_some (partition_in_slot (chunk_with xs c) t) ≡ true)
    (λ slot. (partition_in (chunk_with xs c) ≡ Some p) × (slot < size) × (is_some (partition_in_slot (chunk_with xs c) slot) ≡ false) × ((t : ℕ) → t < slot → is_some (partition_in_slot (chunk_with xs c) t) ≡ true))
free_found size xs c p x None is same sized full = λ _ t lt. used_is xs c t x is ∙ full t (omega (arith, lt, sized))
free_found size xs c p x (Some k) is same sized free =
    (ap partition_in is ∙ ap (λ q. Some q) same, (let w = free.0 in omega (arith, w, sized)), used_is xs c k x is ∙ free.1, λ t lt. used_is xs c t x is ∙ free.2 t lt)

pub not_there_from : (o : Option (List Value)) → is_some o ≡ false → o ≡ None
not_there_from None e = refl
not_there_from (Some p) e = absurd cc

-- all slots of the chunk at a place are within the size
pub slot_inside : (size : ℕ) (xs : List Chunk) (at s : ℕ) (x : Chunk) → AreChunks size xs → at < length xs → x ≡ get_or xs at x → s < size → s < length x.used
slot_inside size xs at s x are lt is within =
    let e : length x.used ≡ size = ap (λ (y : Chunk). length y.used) is ∙ (are.each at x lt).sized in
    omega (arith, e, within)
