-- Chunks by their numbers: where one stands, and what becomes of the others where one is put in, taken out or changed.
use Rattle.std.proofs.Common.{◌≡◌, ℕ, zero, suc, ◌+◌, ◌-◌, ◌<◌, ◌≤◌, ◌==◌, Bool, true, false, cond, if◌then◌else◌, ltb, leb, is_some, List, [], ◌∷◌, length, get_or, Option, Some, None, refl, sym, ap, ◌∙◌, ⊎_elim, arith}
use Rattle.std.specs.List.{insert, remove}
use Rattle.std.proofs.lemmas.Bool.{cases_eq, eq-eqb, ne_eqb, eqb-true, cond-true, cond-false, cases_lt, ltb-true, ltb-false, leb-true, leb-false, le-leb}
use Rattle.std.proofs.lemmas.List.{get_or_default}
use Rattle.shared_leaves.specs.Edits.{edited_at}
use Rattle.slot_alloc.specs.declared.chunk.Chunk.{Chunk}
use Rattle.slot_alloc.specs.Places.{chunk_with, partition_in}
use Rattle.slot_alloc.specs.inner.Kept.{NumbersRise}
use Rattle.slot_alloc.specs.inner.Searches.{IsSplit, IsSplitPlace}
use Rattle.slot_alloc.proofs.ListLaws.{pairs-tail, pairs-head, length-edited, kept-edited}

-- ---- numbers that rise

abbrev pub number_at : List Chunk → ℕ → Chunk → ℕ
number_at xs k d = (get_or xs k d).number

rises_by : (xs : List Chunk) → NumbersRise xs → (i j : ℕ) (d : Chunk) → i ≤ j → j < length xs → number_at xs i d + (j - i) ≤ number_at xs j d
rises_by xs rise i zero d le lt = let e : i ≡ 0 = omega (arith, le) in rw e (omega arith)
rises_by xs rise i (suc j) d le lt =
    ⊎_elim
    (λ (same : i ≡ suc j). rw same (omega arith))
    (λ (other : i ≡ suc j → ⊥).
    let before = rises_by xs rise i j d (omega (arith, le, other)) (omega (arith, lt)) in
    let next = rise j (suc j) d (omega arith) lt in
    omega (arith, before, next, le, other))
    (cases_eq i (suc j))

rises_to : (xs : List Chunk) → NumbersRise xs → (i j : ℕ) (d : Chunk) → i ≤ j → j < length xs → number_at xs i d ≤ number_at xs j d
rises_to xs rise i j d le lt = let h = rises_by xs rise i j d le lt in omega (arith, h)

pub unbroken_split : (xs : List Chunk) → NumbersRise xs → IsSplit (λ at x. leb (x.number - 1) at) xs
unbroken_split xs rise i j d le lt passes = le-leb _ _ (let a = rises_by xs rise i j d le lt in let b = leb-true _ _ passes in omega (arith, a, b, le))

-- ---- the chunk with a number

pub with-at : (xs : List Chunk) (at c : ℕ) (d : Chunk) → NumbersRise xs → at < length xs → number_at xs at d ≡ c → chunk_with xs c ≡ Some (get_or xs at d)
with-at [] at c d rise lt is = absurd (omega (arith, lt))
with-at (x ∷ xs) zero c d rise lt is = cond-true (c == x.number) _ _ (eq-eqb c x.number (sym is))
with-at (x ∷ xs) (suc at) c d rise lt is =
    let above = rise 0 (suc at) d (omega arith) lt in
    cond-false (c == x.number) _ _ (ne_eqb c x.number (λ e. absurd (omega (arith, e, is, above))))
    ∙ with-at xs at c d (pairs-tail (λ x y. x.number < y.number) x xs rise) (omega (arith, lt)) is

pub with-none : (xs : List Chunk) (c : ℕ) → ((k : ℕ) (d : Chunk) → k < length xs → number_at xs k d ≡ c → ⊥) → chunk_with xs c ≡ None
with-none [] c none = refl
with-none (x ∷ xs) c none =
    cond-false (c == x.number) _ _ (ne_eqb c x.number (λ e. none 0 x (omega arith) (sym e))) ∙ with-none xs c (λ k d lt. none (suc k) d (omega (arith, lt)))

-- the chunk with a number is one of the list
pub record IsWith (xs : List Chunk) (c : ℕ) (x : Chunk) : Type 0 where
  pub at : ℕ
  pub within : at < length xs
  pub is : get_or xs at x ≡ x
  pub number : x.number ≡ c

pub with-some : (xs : List Chunk) (c : ℕ) (x : Chunk) → chunk_with xs c ≡ Some x → IsWith xs c x
with-some [] c x e = absurd cc
with-some (y ∷ xs) c x e = by (c == y.number) refl e (with-some xs c x)
  where
    by : (b : Bool) → (c == y.number) ≡ b → cond b (Some y) (chunk_with xs c) ≡ Some x → (chunk_with xs c ≡ Some x → IsWith xs c x) → IsWith (y ∷ xs) c x
    by true t f rest =
        let same : y ≡ x = cc in
        record { at = 0; within = omega arith; is = same; number = ap (λ (z : Chunk). z.number) (sym same) ∙ sym (eqb-true c y.number t) }
    by false t f rest = let w = rest f in record { at = suc w.at; within = (let l = w.within in omega (arith, l)); is = w.is; number = w.number }

-- a test in front of a list whose own test is another
swap_tests : {X : Type 0} (d m n : ℕ) (a b r rest : X) → (m ≡ n → ⊥) → r ≡ (if d == n then b else rest) → (if d == m then a else r) ≡ (if d == n then b else (if d == m then a else rest))
swap_tests d m n a b r rest apart e = by (d == m) refl
  where
    by : (t : Bool) → (d == m) ≡ t → cond t a r ≡ cond (d == n) b (cond t a rest)
    by true t = sym (cond-false (d == n) b a (ne_eqb d n (λ f. apart (sym (eqb-true d m t) ∙ f))))
    by false t = e

pub with-insert : (xs : List Chunk) (at : ℕ) (y : Chunk) (d : ℕ) → at ≤ length xs → ((k : ℕ) (e : Chunk) → k < at → number_at xs k e < y.number) →
    chunk_with (insert xs at y) d ≡ (if d == y.number then Some y else chunk_with xs d)
with-insert xs zero y d le below = refl
with-insert [] (suc at) y d le below = absurd (omega (arith, le))
with-insert (x ∷ xs) (suc at) y d le below =
    let lower = below 0 x (omega arith) in
    swap_tests d x.number y.number (Some x) (Some y) (chunk_with (insert xs at y) d) (chunk_with xs d) (λ e. absurd (omega (arith, e, lower)))
    (with-insert xs at y d (omega (arith, le)) (λ k e lt. below (suc k) e (omega (arith, lt))))

same_test : {X : Type 0} (t : Bool) (a b r rest : X) → (t ≡ true → r ≡ a) → (t ≡ false → r ≡ rest) → r ≡ cond t a (cond t b rest)
same_test true a b r rest f g = f refl
same_test false a b r rest f g = g refl

pub with-remove : (xs : List Chunk) (at d : ℕ) (e : Chunk) → NumbersRise xs → at < length xs → chunk_with (remove xs at) d ≡ (if d == number_at xs at e then None else chunk_with xs d)
with-remove [] at d e rise lt = absurd (omega (arith, lt))
with-remove (x ∷ xs) zero d e rise lt =
    same_test (d == x.number) None (Some x) (chunk_with xs d) (chunk_with xs d)
    (λ t. with-none xs d (λ k f within same. let above = pairs-head (λ x y. x.number < y.number) x xs rise k f within in absurd (omega (arith, above, same, eqb-true d x.number t))))
    (λ t. refl)
with-remove (x ∷ xs) (suc at) d e rise lt =
    let above = rise 0 (suc at) e (omega arith) lt in
    swap_tests d x.number (number_at xs at e) (Some x) None (chunk_with (remove xs at) d) (chunk_with xs d) (λ f. absurd (omega (arith, f, above)))
    (with-remove xs at d e (pairs-tail (λ x y. x.number < y.number) x xs rise) (omega (arith, lt)))

pub with-edited : (f : Chunk → Chunk) → ((x : Chunk) → (f x).number ≡ x.number) → (xs : List Chunk) (at d : ℕ) (e : Chunk) → NumbersRise xs → at < length xs →
    chunk_with (edited_at f at xs) d ≡ (if d == number_at xs at e then Some (f (get_or xs at e)) else chunk_with xs d)
with-edited f keeps [] at d e rise lt = absurd (omega (arith, lt))
with-edited f keeps (x ∷ xs) zero d e rise lt =
    ap (λ n. if d == n then Some (f x) else chunk_with xs d) (keeps x) ∙ by (d == x.number)
  where
    by : (t : Bool) → cond t (Some (f x)) (chunk_with xs d) ≡ cond t (Some (f x)) (cond t (Some x) (chunk_with xs d))
    by true = refl
    by false = refl
with-edited f keeps (x ∷ xs) (suc at) d e rise lt =
    let above = rise 0 (suc at) e (omega arith) lt in
    swap_tests d x.number (number_at xs at e) (Some x) (Some (f (get_or xs at e))) (chunk_with (edited_at f at xs) d) (chunk_with xs d) (λ f. absurd (omega (arith, f, above)))
    (with-edited f keeps xs at d e (pairs-tail (λ x y. x.number < y.number) x xs rise) (omega (arith, lt)))

pub rise-edited : (f : Chunk → Chunk) → ((x : Chunk) → (f x).number ≡ x.number) → (xs : List Chunk) (at : ℕ) → NumbersRise xs → NumbersRise (edited_at f at xs)
rise-edited f keeps xs at rise i j d lt within =
    let a = kept-edited (λ x. x.number) f keeps xs at i d in
    let b = kept-edited (λ x. x.number) f keeps xs at j d in
    let before = rise i j d lt (let n = length-edited f xs at in omega (arith, within, n)) in
    omega (arith, a, b, before)

-- ---- what a search finds

module _ (c : ℕ) (xs : List Chunk) (at : ℕ) (rise : NumbersRise xs) (place : IsSplitPlace (λ _ x. ltb x.number c) xs at) where
  pub below_at : (k : ℕ) (d : Chunk) → k < at → number_at xs k d < c
  below_at k d lt = ltb-true _ _ (place.front k d lt)

  pub from_at : (k : ℕ) (d : Chunk) → at ≤ k → k < length xs → c ≤ number_at xs k d
  from_at k d le lt = ltb-false _ _ (place.back k d le lt)

  -- a chunk that has the number stands at the place
  is_at : (k : ℕ) (d : Chunk) → k < length xs → number_at xs k d ≡ c → k ≡ at
  is_at k d lt is =
      ⊎_elim
      (λ (same : k ≡ at). same)
      (λ (other : k ≡ at → ⊥).
      ⊎_elim
      (λ (low : k < at). let b = below_at k d low in absurd (omega (arith, b, is)))
      (λ (high : at ≤ k).
      let first = rise at k d (omega (arith, high, other)) lt in
      let from = from_at at d (omega arith) (omega (arith, high, lt)) in
      absurd (omega (arith, first, from, is)))
      (cases_lt k at))
      (cases_eq k at)

-- no chunk has the number, where the one at the place has not
pub none_at : (c : ℕ) (xs : List Chunk) (at : ℕ) → NumbersRise xs → IsSplitPlace (λ _ x. ltb x.number c) xs at → ((d : Chunk) → at < length xs → number_at xs at d ≡ c → ⊥) → chunk_with xs c ≡ None
none_at c xs at rise place other =
    with-none xs c (λ k d lt is.
    let same = is_at c xs at rise place k d lt is in
    let here : number_at xs at d ≡ c = ap (λ n. number_at xs n d) (sym same) ∙ is in
    other d (omega (arith, same, lt)) here)

-- a chunk that is there stands at the place
pub record IsThere (xs : List Chunk) (c at : ℕ) : Type 0 where
  pub within : at < length xs
  pub number : (d : Chunk) → number_at xs at d ≡ c

pub there : (c : ℕ) (xs : List Chunk) (at : ℕ) → NumbersRise xs → IsSplitPlace (λ _ x. ltb x.number c) xs at → is_some (chunk_with xs c) ≡ true → IsThere xs c at
there c xs at rise place has = by (chunk_with xs c) refl has
  where
    by : (o : Option Chunk) → chunk_with xs c ≡ o → is_some o ≡ true → IsThere xs c at
    by None e h = absurd cc
    by (Some x) e h =
        let w = with-some xs c x e in
        let same = is_at c xs at rise place w.at x w.within (ap (λ (y : Chunk). y.number) w.is ∙ w.number) in
        let lt : at < length xs = (let l = w.within in omega (arith, l, same)) in
        let here : get_or xs at x ≡ x = ap (λ n. get_or xs n x) (sym same) ∙ w.is in
        record { within = lt; number = λ d. ap (λ (y : Chunk). y.number) (get_or_default xs at d x lt ∙ here) ∙ w.number }

pub found-at : (xs : List Chunk) (c at : ℕ) (x : Chunk) → NumbersRise xs → at < length xs → ((d : Chunk) → number_at xs at d ≡ c) → x ≡ get_or xs at x → chunk_with xs c ≡ Some x
found-at xs c at x rise lt number is = with-at xs at c x rise lt (number x) ∙ ap (λ y. Some y) (sym is)

-- ---- the next chunk

module _ (after : ℕ) (xs : List Chunk) (at : ℕ) (rise : NumbersRise xs) (place : IsSplitPlace (λ _ x. leb x.number after) xs at) where
  none_between : (d : ℕ) → after < d → ((k : ℕ) (e : Chunk) → at ≤ k → k < length xs → d < number_at xs k e) → chunk_with xs d ≡ None
  none_between d more higher =
      with-none xs d (λ k e lt is.
      ⊎_elim
      (λ (low : k < at). let b = leb-true _ _ (place.front k e low) in absurd (omega (arith, b, is, more)))
      (λ (high : at ≤ k). let b = higher k e high lt in absurd (omega (arith, b, is)))
      (cases_lt k at))

  pub none_later : length xs ≤ at → (d : ℕ) → after < d → chunk_with xs d ≡ None
  none_later end d more = none_between d more (λ k e le lt. absurd (omega (arith, end, le, lt)))

  module _ (x : Chunk) (lt : at < length xs) (is : x ≡ get_or xs at x) where
    pub next_later : after < x.number
    next_later = let b = leb-false _ _ (place.back at x (omega arith) lt) in let n = ap (λ (y : Chunk). y.number) is in omega (arith, b, n)

    pub next_there : chunk_with xs x.number ≡ Some x
    next_there = with-at xs at x.number x rise lt (ap (λ (y : Chunk). y.number) (sym is)) ∙ ap (λ y. Some y) (sym is)

    pub next_least : (d : ℕ) → after < d → d < x.number → chunk_with xs d ≡ None
    next_least d more less =
        none_between d more (λ k e le within.
        let first = rises_to xs rise at k e le within in
        let same = ap (λ (y : Chunk). y.number) (is ∙ get_or_default xs at x e lt) in
        omega (arith, first, same, less))

-- ---- the least number that no chunk has

module _ (xs : List Chunk) (at : ℕ) (rise : NumbersRise xs) (positive : (k : ℕ) (d : Chunk) → k < length xs → 0 < number_at xs k d) (place : IsSplitPlace (λ k x. leb (x.number - 1) k) xs at) where
  pub unused_next : chunk_with xs (at + 1) ≡ None
  unused_next =
      with-none xs (at + 1) (λ k d lt is.
      ⊎_elim
      (λ (low : k < at). let b = leb-true _ _ (place.front k d low) in absurd (omega (arith, b, is, low)))
      (λ (high : at ≤ k). let b = leb-false _ _ (place.back k d high lt) in absurd (omega (arith, b, is, high)))
      (cases_lt k at))

  pub used_lower : (d : ℕ) → 0 < d → d < at + 1 → is_some (partition_in (chunk_with xs d)) ≡ true
  used_lower d some less = by xs refl
    where
      filled : (e : Chunk) → is_some (partition_in (chunk_with xs d)) ≡ true
      filled e =
          (let within : d - 1 < length xs = (let w = place.within in omega (arith, w, some, less)) in
          let b = leb-true _ _ (place.front (d - 1) e (omega (arith, some, less))) in
          let first = positive 0 e (omega (arith, within)) in
          let up = rises_by xs rise 0 (d - 1) e (omega arith) within in
          let is : number_at xs (d - 1) e ≡ d = omega (arith, b, first, up, some) in
          ap (λ o. is_some (partition_in o)) (with-at xs (d - 1) d e rise within is))

      by : (ys : List Chunk) → xs ≡ ys → is_some (partition_in (chunk_with xs d)) ≡ true
      by [] e = (let n = ap length e in let w = place.within in absurd (omega (arith, n, w, some, less)))
      by (y ∷ ys) e = filled y
