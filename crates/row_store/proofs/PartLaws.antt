-- Parts by rising numbers: which one has a number, and what a change of one makes of what is seen.
use Rattle.std.proofs.Common.{◌≡◌, ℕ, ℤ, zero, suc, ◌+◌, ◌^◌, ◌<◌, ◌≤◌, Bool, true, false, cond, List, [], ◌∷◌, length, get_or, refl, sym, ap, ◌∙◌, arith, subst, length-set, Some, None, ⊎_elim}
use Rattle.std.specs.Prelude.{◌&&◌, ◌||◌, ◌==◌, nat_lt, map, replicate, is_some, slice_get, slice_set, slice_index_or}
use Rattle.std.specs.List.{AllByRecursion, count_by, insert, list_all, list_any, remove}
use Rattle.std.specs.declared.option.Option.{Option}
use Rattle.std.proofs.lemmas.Bool.{and_parts, and_from, cases_lt, cond-true, cond-false}
use Rattle.std.proofs.lemmas.List.Sums.{sum_by-cons}
use Rattle.std.proofs.lemmas.List.{get_or-set_same, get_or-set_other, length-replicate}
use Rattle.vec_base.specs.declared.value.Value.{Value}
use Rattle.row_model.specs.declared.schema.Column.{Column}
use Rattle.chunk_slots.specs.Slots.{vectors_of}
use Rattle.row_chunks.specs.Cells.{are_cell_values, cells_of}
use Rattle.row_chunks.specs.RowSlots.{UsedRow, all_free, slot_at}
use Rattle.shared_leaves.specs.Edits.{edited_at, HoldsAt}
use Rattle.row_store.specs.declared.part.Part.{Part}
use Rattle.row_store.specs.declared.shape.Shape.{Shape}
use Rattle.row_store.specs.inner.Parts.{part_of, seen_at, seen_in, numbers_rise, number_at, taken_by, with_content, CanTake, HasShape, RowFits, ArePartsOf, IsChangedAt, KeepShapes}

-- ---- numbers

number_same : (a b : ℕ) → (a == b) ≡ true → a ≡ b
number_same a b h = grind arith

number_back : (a b : ℕ) → a ≡ b → (a == b) ≡ true
number_back a b h = grind arith

number_other : (a b : ℕ) → (a == b) ≡ false → a ≡ b → ⊥
number_other a b h = grind arith

number_apart : (a b : ℕ) → (a == b) ≡ false → (b == a) ≡ false
number_apart a b h = grind arith

pub number_at-read : (parts : List Part) (k : ℕ) (p : Part) → k < length parts → p ≡ get_or parts k p → number_at parts k ≡ p.number
number_at-read [] k p lt is = absurd (omega (arith, lt))
number_at-read (x ∷ xs) zero p lt is = ap (λ q. q.number) (sym is)
number_at-read (x ∷ xs) (suc k) p lt is = number_at-read xs k p (omega arith) is

above_at : (n : ℕ) (parts : List Part) (k : ℕ) → list_all (λ q. nat_lt n q.number) parts ≡ true → k < length parts → n < number_at parts k
above_at n [] k above lt = absurd (omega (arith, lt))
above_at n (x ∷ xs) zero above lt = let h : nat_lt n x.number ≡ true = (and_parts _ _ above).0 in lt_from n x.number h where
  lt_from : (a b : ℕ) → nat_lt a b ≡ true → a < b
  lt_from a b h = grind arith
above_at n (x ∷ xs) (suc k) above lt = above_at n xs k (and_parts _ _ above).1 (omega arith)

pub numbers-rise : (parts : List Part) (k l : ℕ) → numbers_rise parts ≡ true → k < l → l < length parts → number_at parts k < number_at parts l
numbers-rise [] k l rise lt within = absurd (omega (arith, within))
numbers-rise (x ∷ xs) zero zero rise lt within = absurd (omega (arith, lt))
numbers-rise (x ∷ xs) zero (suc l) rise lt within = above_at x.number xs l (and_parts _ _ rise).0 (omega arith)
numbers-rise (x ∷ xs) (suc k) zero rise lt within = absurd (omega (arith, lt))
numbers-rise (x ∷ xs) (suc k) (suc l) rise lt within = numbers-rise xs k l (and_parts _ _ rise).1 (omega arith) (omega arith)

-- ---- the part of a number

pub part_of-none : (parts : List Part) (c : ℕ) → ((k : ℕ) → k < length parts → number_at parts k ≡ c → ⊥) → part_of parts c ≡ None
part_of-none [] c other = refl
part_of-none (x ∷ xs) c other =
    cond-false _ _ _ (ne_from x.number c (other zero (omega arith)))
    ∙ part_of-none xs c (λ k lt is. other (suc k) (omega arith) is)
  where
    ne_from : (a b : ℕ) → (a ≡ b → ⊥) → (a == b) ≡ false
    ne_from a b h = grind arith

lower_at : (n c : ℕ) (parts : List Part) (k : ℕ) → list_all (λ q. nat_lt n q.number) parts ≡ true → k < length parts → number_at parts k ≡ c → (n == c) ≡ false
lower_at n c parts k above lt is = less n c (let h = above_at n parts k above lt in omega (arith, h, is)) where
  less : (a b : ℕ) → a < b → (a == b) ≡ false
  less a b h = grind arith

pub part_of-at : (parts : List Part) (c k : ℕ) (d : Part) → numbers_rise parts ≡ true → k < length parts → number_at parts k ≡ c → part_of parts c ≡ Some (get_or parts k d)
part_of-at [] c k d rise lt is = absurd (omega (arith, lt))
part_of-at (x ∷ xs) c zero d rise lt is = cond-true _ _ _ (same x.number c is) where
  same : (a b : ℕ) → a ≡ b → (a == b) ≡ true
  same a b h = grind arith
part_of-at (x ∷ xs) c (suc k) d rise lt is =
    let other : (x.number == c) ≡ false = lower_at x.number c xs k (and_parts _ _ rise).0 (omega arith) is in
    let rest : part_of xs c ≡ Some (get_or xs k d) = part_of-at xs c k d (and_parts _ _ rise).1 (omega arith) is in
    cond-false _ _ _ other ∙ rest

-- a part among those above a number is above it
member_above : (n : ℕ) (parts : List Part) (at : ℕ) (x : Part) → list_all (λ q. nat_lt n q.number) parts ≡ true → slice_get parts at ≡ Some x → n < x.number
member_above n [] at x above there = absurd cc
member_above n (y ∷ ys) zero x above there = let x_is : y ≡ x = cc in lt_from n x.number (ap (λ z. nat_lt n z.number) (sym x_is) ∙ (and_parts _ _ above).0) where
  lt_from : (a b : ℕ) → nat_lt a b ≡ true → a < b
  lt_from a b h = grind arith
member_above n (y ∷ ys) (suc at) x above there = member_above n ys at x (and_parts _ _ above).1 there

-- no part has a number that those before a place are below, and those from there on are above
pub none_between : (parts : List Part) (c at : ℕ) → ((k : ℕ) → k < at → number_at parts k < c) → ((k : ℕ) → at ≤ k → k < length parts → c < number_at parts k) → part_of parts c ≡ None
none_between parts c at front back = part_of-none parts c (λ k lt is. ⊎_elim (λ (low : k < at). let h = front k low in omega (arith, h, is)) (λ (high : at ≤ k). let h = back k high lt in omega (arith, h, is)) (cases_lt k at))

-- the numbers from a place on are at least that of the place
pub from_on : (parts : List Part) (at k : ℕ) → numbers_rise parts ≡ true → at ≤ k → k < length parts → number_at parts at ≤ number_at parts k
from_on parts at k rise le lt = ⊎_elim (λ (low : at < k). let h = numbers-rise parts at k rise low lt in omega arith) (λ (high : k ≤ at). let e : at ≡ k = omega arith in let h = ap (number_at parts) e in omega (arith, h)) (cases_lt at k)

-- the part at a place is that of its number
pub member_part : (parts : List Part) (at : ℕ) (x : Part) → numbers_rise parts ≡ true → slice_get parts at ≡ Some x → part_of parts x.number ≡ Some x
member_part [] at x rise there = absurd cc
member_part (y ∷ ys) zero x rise there = let x_is : y ≡ x = cc in ap (λ z. part_of (y ∷ ys) z.number) (sym x_is) ∙ cond-true _ _ _ (number_back y.number y.number refl) ∙ ap Some x_is
member_part (y ∷ ys) (suc at) x rise there =
    let other : (y.number == x.number) ≡ false = less y.number x.number (member_above y.number ys at x (and_parts _ _ rise).0 there) in
    let rest : part_of ys x.number ≡ Some x = member_part ys at x (and_parts _ _ rise).1 there in
    cond-false _ _ _ other ∙ rest
  where
    less : (a b : ℕ) → a < b → (a == b) ≡ false
    less a b h = grind arith

-- ---- one part changed, more or less

below_all : (n : ℕ) (change : Part → Part) (parts : List Part) (at : ℕ) → ((x : Part) → (change x).number ≡ x.number) → list_all (λ q. nat_lt n q.number) parts ≡ true → list_all (λ q. nat_lt n q.number) (edited_at change at parts) ≡ true
below_all n change [] at same above = refl
below_all n change (x ∷ xs) zero same above = and_from _ _ (ap (nat_lt n) (same x) ∙ (and_parts _ _ above).0) (and_parts _ _ above).1
below_all n change (x ∷ xs) (suc at) same above = and_from _ _ (and_parts _ _ above).0 (below_all n change xs at same (and_parts _ _ above).1)

above_changed : (a b : ℕ) (parts : List Part) → a ≡ b → list_all (λ q. nat_lt b q.number) parts ≡ true → list_all (λ q. nat_lt a q.number) parts ≡ true
above_changed a b parts e h = ap (λ n. list_all (λ q. nat_lt n q.number) parts) e ∙ h

pub rise-edited : (change : Part → Part) (parts : List Part) (at : ℕ) → ((x : Part) → (change x).number ≡ x.number) → numbers_rise parts ≡ true → numbers_rise (edited_at change at parts) ≡ true
rise-edited change [] at same rise = refl
rise-edited change (x ∷ xs) zero same rise = and_from _ _ (above_changed (change x).number x.number xs (same x) (and_parts _ _ rise).0) (and_parts _ _ rise).1
rise-edited change (x ∷ xs) (suc at) same rise = and_from _ _ (below_all x.number change xs at same (and_parts _ _ rise).0) (rise-edited change xs at same (and_parts _ _ rise).1)

pub part_of-edited : (change : Part → Part) (parts : List Part) (at : ℕ) (x : Part) (d : ℕ) → ((y : Part) → (change y).number ≡ y.number) → numbers_rise parts ≡ true → slice_get parts at ≡ Some x →
    part_of (edited_at change at parts) d ≡ cond (x.number == d) (Some (change x)) (part_of parts d)
part_of-edited change [] at x d same rise there = absurd cc
part_of-edited change (y ∷ ys) zero x d same rise there =
    let x_is : y ≡ x = cc in
    ap (λ n. cond (n == d) (Some (change y)) (part_of ys d)) (same y) ∙ by_test (y.number == d)
    ∙ ap (λ z. cond (z.number == d) (Some (change z)) (cond (y.number == d) (Some y) (part_of ys d))) x_is
  where
    by_test : (t : Bool) → cond t (Some (change y)) (part_of ys d) ≡ cond t (Some (change y)) (cond t (Some y) (part_of ys d))
    by_test true = refl
    by_test false = refl
part_of-edited change (y ∷ ys) (suc at) x d same rise there =
    let other : (z : ℕ) → z ≡ d → (x.number == d) ≡ true → (y.number == d) ≡ false = λ z e h. before y.number x.number d (member_above y.number ys at x (and_parts _ _ rise).0 there) h in
    let rest : part_of (edited_at change at ys) d ≡ cond (x.number == d) (Some (change x)) (part_of ys d) = part_of-edited change ys at x d same (and_parts _ _ rise).1 there in
    by_test (y.number == d) (x.number == d) refl refl (λ h. other d refl h) rest
  where
    before : (a b d : ℕ) → a < b → (b == d) ≡ true → (a == d) ≡ false
    before a b d lt h = grind arith

    by_test : (t u : Bool) → (y.number == d) ≡ t → (x.number == d) ≡ u → ((x.number == d) ≡ true → (y.number == d) ≡ false) → part_of (edited_at change at ys) d ≡ cond (x.number == d) (Some (change x)) (part_of ys d) →
        cond t (Some y) (part_of (edited_at change at ys) d) ≡ cond u (Some (change x)) (cond t (Some y) (part_of ys d))
    by_test true true e f apart rest = let never : true ≡ false = sym e ∙ apart f in absurd cc
    by_test true false e f apart rest = refl
    by_test false u e f apart rest = rest ∙ ap (λ w. cond w (Some (change x)) (part_of ys d)) f

-- a part put where those before it are below and those from there on are above
insert_above : (n : ℕ) (p : Part) (parts : List Part) (at : ℕ) → at ≤ length parts → n < p.number → list_all (λ q. nat_lt n q.number) parts ≡ true → list_all (λ q. nat_lt n q.number) (insert parts at p) ≡ true
insert_above n p parts zero le lt above = and_from _ _ (lt_to n p.number lt) above where
  lt_to : (a b : ℕ) → a < b → nat_lt a b ≡ true
  lt_to a b h = grind arith
insert_above n p [] (suc at) le lt above = absurd (omega (arith, le))
insert_above n p (x ∷ xs) (suc at) le lt above = and_from _ _ (and_parts _ _ above).0 (insert_above n p xs at (omega arith) lt (and_parts _ _ above).1)

all_above : (n : ℕ) (parts : List Part) → ((k : ℕ) → k < length parts → n < number_at parts k) → list_all (λ q. nat_lt n q.number) parts ≡ true
all_above n [] each = refl
all_above n (x ∷ xs) each = and_from _ _ (lt_to n x.number (each zero (omega arith))) (all_above n xs (λ k lt. each (suc k) (omega arith))) where
  lt_to : (a b : ℕ) → a < b → nat_lt a b ≡ true
  lt_to a b h = grind arith

pub rise-inserted : (p : Part) (parts : List Part) (at : ℕ) → at ≤ length parts → ((k : ℕ) → k < at → number_at parts k < p.number) → ((k : ℕ) → at ≤ k → k < length parts → p.number < number_at parts k) → numbers_rise parts ≡ true → numbers_rise (insert parts at p) ≡ true
rise-inserted p parts zero le front back rise = and_from _ _ (all_above p.number parts (λ k lt. back k (omega arith) lt)) rise
rise-inserted p [] (suc at) le front back rise = absurd (omega (arith, le))
rise-inserted p (x ∷ xs) (suc at) le front back rise =
    and_from _ _ (insert_above x.number p xs at (omega arith) (front zero (omega arith)) (and_parts _ _ rise).0)
    (rise-inserted p xs at (omega arith) (λ k lt. front (suc k) (omega arith)) (λ k low lt. back (suc k) (omega arith) (omega arith)) (and_parts _ _ rise).1)

pub part_of-inserted : (p : Part) (parts : List Part) (at d : ℕ) → at ≤ length parts → part_of parts p.number ≡ None → part_of (insert parts at p) d ≡ cond (p.number == d) (Some p) (part_of parts d)
part_of-inserted p parts zero d le new = refl
part_of-inserted p [] (suc at) d le new = absurd (omega (arith, le))
part_of-inserted p (x ∷ xs) (suc at) d le new =
    let later = not_first x xs p.number new in
    let rest : part_of (insert xs at p) d ≡ cond (p.number == d) (Some p) (part_of xs d) = part_of-inserted p xs at d (omega arith) later.1 in
    by_test (x.number == d) (p.number == d) refl refl rest
  where
    not_first : (y : Part) (ys : List Part) (n : ℕ) → part_of (y ∷ ys) n ≡ None → ((y.number == n) ≡ false) × (part_of ys n ≡ None)
    not_first y ys n none = by_first (y.number == n) refl none where
      by_first : (t : Bool) → (y.number == n) ≡ t → cond t (Some y) (part_of ys n) ≡ None → ((y.number == n) ≡ false) × (part_of ys n ≡ None)
      by_first true e h = absurd cc
      by_first false e h = (e, h)

    apart : (a b d : ℕ) → (a == b) ≡ false → (a == d) ≡ true → (b == d) ≡ true → true ≡ false
    apart a b d e f g = grind arith

    by_test : (t u : Bool) → (x.number == d) ≡ t → (p.number == d) ≡ u → part_of (insert xs at p) d ≡ cond (p.number == d) (Some p) (part_of xs d) →
        cond t (Some x) (part_of (insert xs at p) d) ≡ cond u (Some p) (cond t (Some x) (part_of xs d))
    by_test true true e f rest = let never = apart x.number p.number d (not_first x xs p.number new).0 e f in absurd cc
    by_test true false e f rest = refl
    by_test false u e f rest = rest ∙ ap (λ w. cond w (Some p) (part_of xs d)) f

-- a part taken out
remove_above : (n : ℕ) (parts : List Part) (at : ℕ) → at < length parts → list_all (λ q. nat_lt n q.number) parts ≡ true → list_all (λ q. nat_lt n q.number) (remove parts at) ≡ true
remove_above n [] at lt above = absurd (omega (arith, lt))
remove_above n (x ∷ xs) zero lt above = (and_parts _ _ above).1
remove_above n (x ∷ xs) (suc at) lt above = and_from _ _ (and_parts _ _ above).0 (remove_above n xs at (omega arith) (and_parts _ _ above).1)

pub rise-removed : (parts : List Part) (at : ℕ) → at < length parts → numbers_rise parts ≡ true → numbers_rise (remove parts at) ≡ true
rise-removed [] at lt rise = absurd (omega (arith, lt))
rise-removed (x ∷ xs) zero lt rise = (and_parts _ _ rise).1
rise-removed (x ∷ xs) (suc at) lt rise = and_from _ _ (remove_above x.number xs at (omega arith) (and_parts _ _ rise).0) (rise-removed xs at (omega arith) (and_parts _ _ rise).1)

none_above : (n : ℕ) (parts : List Part) → list_all (λ q. nat_lt n q.number) parts ≡ true → part_of parts n ≡ None
none_above n [] above = refl
none_above n (x ∷ xs) above = cond-false _ _ _ (apart n x.number (and_parts _ _ above).0) ∙ none_above n xs (and_parts _ _ above).1 where
  apart : (a b : ℕ) → nat_lt a b ≡ true → (b == a) ≡ false
  apart a b h = grind arith

pub part_of-removed : (parts : List Part) (at : ℕ) (x : Part) (d : ℕ) → numbers_rise parts ≡ true → slice_get parts at ≡ Some x → part_of (remove parts at) d ≡ cond (x.number == d) None (part_of parts d)
part_of-removed [] at x d rise there = absurd cc
part_of-removed (y ∷ ys) zero x d rise there =
    let x_is : y ≡ x = cc in
    by_test (y.number == d) refl ∙ ap (λ z. cond (z.number == d) None (cond (y.number == d) (Some y) (part_of ys d))) x_is
  where
    same : (a b : ℕ) → (a == b) ≡ true → a ≡ b
    same a b h = grind arith

    by_test : (t : Bool) → (y.number == d) ≡ t → part_of ys d ≡ cond t None (cond t (Some y) (part_of ys d))
    by_test true e = ap (part_of ys) (sym (same y.number d e)) ∙ none_above y.number ys (and_parts _ _ rise).0
    by_test false e = refl
part_of-removed (y ∷ ys) (suc at) x d rise there =
    let rest : part_of (remove ys at) d ≡ cond (x.number == d) None (part_of ys d) = part_of-removed ys at x d (and_parts _ _ rise).1 there in
    by_test (y.number == d) (x.number == d) refl refl (λ h. before y.number x.number d (member_above y.number ys at x (and_parts _ _ rise).0 there) h) rest
  where
    before : (a b d : ℕ) → a < b → (b == d) ≡ true → (a == d) ≡ false
    before a b d lt h = grind arith

    by_test : (t u : Bool) → (y.number == d) ≡ t → (x.number == d) ≡ u → ((x.number == d) ≡ true → (y.number == d) ≡ false) → part_of (remove ys at) d ≡ cond (x.number == d) None (part_of ys d) →
        cond t (Some y) (part_of (remove ys at) d) ≡ cond u None (cond t (Some y) (part_of ys d))
    by_test true true e f apart rest = let never : true ≡ false = sym e ∙ apart f in absurd cc
    by_test true false e f apart rest = refl
    by_test false u e f apart rest = rest ∙ ap (λ w. cond w None (part_of ys d)) f

-- ---- shapes

all-edited : {A : Type 0} (P : A → Type 0) (change : A → A) (at : ℕ) (xs : List A) → ((x : A) → slice_get xs at ≡ Some x → P x → P (change x)) → AllByRecursion P xs → AllByRecursion P (edited_at change at xs)
all-edited P change at [] keeps all = tt
all-edited P change zero (x ∷ xs) keeps all = (keeps x refl all.0, all.1)
all-edited P change (suc at) (x ∷ xs) keeps all = (all.0, all-edited P change at xs keeps all.1)

all-inserted : {A : Type 0} (P : A → Type 0) (new : A) (at : ℕ) (xs : List A) → at ≤ length xs → P new → AllByRecursion P xs → AllByRecursion P (insert xs at new)
all-inserted P new zero xs le h all = (h, all)
all-inserted P new (suc at) [] le h all = absurd (omega (arith, le))
all-inserted P new (suc at) (x ∷ xs) le h all = (all.0, all-inserted P new at xs (omega arith) h all.1)

all-removed : {A : Type 0} (P : A → Type 0) (at : ℕ) (xs : List A) → at < length xs → AllByRecursion P xs → AllByRecursion P (remove xs at)
all-removed P at [] lt all = absurd (omega (arith, lt))
all-removed P zero (x ∷ xs) lt all = all.1
all-removed P (suc at) (x ∷ xs) lt all = (all.0, all-removed P at xs (omega arith) all.1)

any-set : (xs : List (Option UsedRow)) (s : ℕ) (used : UsedRow) → s < length xs → list_any is_some (slice_set xs s (Some used)) ≡ true
any-set [] s used lt = absurd (omega (arith, lt))
any-set (x ∷ xs) zero used lt = refl
any-set (x ∷ xs) (suc s) used lt = or_right (is_some x) (list_any is_some (slice_set xs s (Some used))) (any-set xs s used (omega arith)) where
  or_right : (a b : Bool) → b ≡ true → (a || b) ≡ true
  or_right true b e = refl
  or_right false b e = e

any-counted : (xs : List (Option UsedRow)) → 0 < count_by is_some xs → list_any is_some xs ≡ true
any-counted [] h = absurd (omega (arith, h))
any-counted (None ∷ xs) h = any-counted xs h
any-counted (Some x ∷ xs) h = refl

-- where more than one is used, some are left when one goes
any-left : (xs : List (Option UsedRow)) (s : ℕ) → s < length xs → 1 < count_by is_some xs → list_any is_some (slice_set xs s None) ≡ true
any-left [] s lt many = absurd (omega (arith, lt))
any-left (None ∷ xs) zero lt many = any-counted xs (let h : 1 < count_by is_some xs = many in omega (arith, h))
any-left (Some x ∷ xs) zero lt many = any-counted xs (let h : 1 < 1 + count_by is_some xs = rw (sym (sum_by-cons {X = Option UsedRow} (λ y. cond (is_some y) 1 0) (Some x) xs)) many in omega (arith, h))
any-left (None ∷ xs) (suc s) lt many = any-left xs s (omega arith) many
any-left (Some x ∷ xs) (suc s) lt many = refl

none-counted : (xs : List (Option UsedRow)) (t : ℕ) → count_by is_some xs ≡ 0 → slice_index_or xs t None ≡ None
none-counted [] t h = refl
none-counted (None ∷ xs) zero h = refl
none-counted (None ∷ xs) (suc t) h = none-counted xs t h
none-counted (Some x ∷ xs) t h = absurd (let e : 1 + count_by is_some xs ≡ 0 = sym (sum_by-cons {X = Option UsedRow} (λ y. cond (is_some y) 1 0) (Some x) xs) ∙ h in omega (arith, e))

-- where one alone is used, no other is
only-counted : (xs : List (Option UsedRow)) (s t : ℕ) → is_some (slice_index_or xs s None) ≡ true → count_by is_some xs ≤ 1 → (t ≡ s → ⊥) → slice_index_or xs t None ≡ None
only-counted [] s t used few other = refl
only-counted (None ∷ xs) zero t used few other = absurd cc
only-counted (None ∷ xs) (suc s) zero used few other = refl
only-counted (None ∷ xs) (suc s) (suc t) used few other = only-counted xs s t used few (λ e. other (ap suc e))
only-counted (Some x ∷ xs) zero zero used few other = absurd (other refl)
only-counted (Some x ∷ xs) zero (suc t) used few other = none-counted xs t (let h : 1 + count_by is_some xs ≤ 1 = rw (sym (sum_by-cons {X = Option UsedRow} (λ y. cond (is_some y) 1 0) (Some x) xs)) few in omega (arith, h))
only-counted (Some x ∷ xs) (suc s) t used few other =
    let h : 1 + count_by is_some xs ≤ 1 = rw (sym (sum_by-cons {X = Option UsedRow} (λ y. cond (is_some y) 1 0) (Some x) xs)) few in
    let zero_left : count_by is_some xs ≡ 0 = omega (arith, h) in
    let gone : slice_index_or xs s None ≡ None = none-counted xs s zero_left in
    let never : false ≡ true = sym (ap is_some gone) ∙ used in
    absurd cc

-- what slots hold has these widths, where what is put there has them and what was there had them
fits-set : (widths : List ℕ) (xs : List (Option UsedRow)) (s : ℕ) (o : Option UsedRow) → s < length xs → ((u : UsedRow) → o ≡ Some u → map length u.vectors ≡ widths) →
    ((t : ℕ) (u : UsedRow) → slice_index_or xs t None ≡ Some u → map length u.vectors ≡ widths) → (t : ℕ) (u : UsedRow) → slice_index_or (slice_set xs s o) t None ≡ Some u → map length u.vectors ≡ widths
fits-set widths xs s o within new old t u is = by_slot (t == s) refl where
  by_slot : (b : Bool) → (t == s) ≡ b → map length u.vectors ≡ widths
  by_slot true e = new u (sym (ap (λ v. slice_index_or (slice_set xs s o) v None) (number_same t s e) ∙ get_or-set_same xs s o None within) ∙ is)
  by_slot false e = old t u (sym (get_or-set_other xs s t o None (number_other t s e)) ∙ is)

only_fits : (widths : List ℕ) (used : UsedRow) → map length used.vectors ≡ widths → (u : UsedRow) → Some used ≡ Some u → map length u.vectors ≡ widths
only_fits widths used fits u same = let u_is : used ≡ u = cc in ap (λ v. map length v.vectors) (sym u_is) ∙ fits

pub placed-shape : (alike : Shape) (slot : ℕ) (used : UsedRow) (x : Part) → slot < length x.slots.slots → map length used.vectors ≡ x.slots.widths → HasShape alike x → HasShape alike (with_content slot (Some used) x)
placed-shape alike slot used x within fits shape = record {
  long = length-set x.slots.slots slot (Some used) ∙ shape.long;
  wide = shape.wide;
  celled = shape.celled;
  filled = any-set x.slots.slots slot used within;
  vectors = fits-set alike.widths x.slots.slots slot (Some used) within (only_fits alike.widths used (fits ∙ shape.wide)) shape.vectors;
  narrow = shape.narrow;
}

pub dropped-shape : (alike : Shape) (slot : ℕ) (x : Part) → slot < length x.slots.slots → 1 < count_by is_some x.slots.slots → HasShape alike x → HasShape alike (with_content slot None x)
dropped-shape alike slot x within many shape = record {
  long = length-set x.slots.slots slot None ∙ shape.long;
  wide = shape.wide;
  celled = shape.celled;
  filled = any-left x.slots.slots slot within many;
  vectors = fits-set alike.widths x.slots.slots slot None within (λ u never. absurd cc) shape.vectors;
  narrow = shape.narrow;
}

-- ---- what is seen

module _ (parts : List Part) (at slot : ℕ) (x : Part) (content : Option UsedRow)
    (rise : numbers_rise parts ≡ true) (there : slice_get parts at ≡ Some x) (within : slot < length x.slots.slots)
    (shape : (alike : Shape) → HasShape alike x → HasShape alike (with_content slot content x)) where
  pub edited-shapes : KeepShapes parts (edited_at (with_content slot content) at parts)
  edited-shapes alike are = record {
    rise = rise-edited (with_content slot content) parts at (λ y. refl) are.rise;
    shaped = all-edited (HasShape alike) (with_content slot content) at parts (λ y is h. kept y is h) are.shaped;
  } where
    kept : (y : Part) → slice_get parts at ≡ Some y → HasShape alike y → HasShape alike (with_content slot content y)
    kept y is h =
        let same : Some x ≡ Some y = sym there ∙ is in
        let x_is : x ≡ y = cc in
        subst (λ z. HasShape alike (with_content slot content z)) x_is (shape alike (subst (HasShape alike) (sym x_is) h))

  own_part : part_of parts x.number ≡ Some x
  own_part = member_part parts at x rise there

  pub changed-at : IsChangedAt x.number slot content parts (edited_at (with_content slot content) at parts)
  changed-at = record {
    seen = λ d t. ap (λ o. seen_in o t) (part_of-edited (with_content slot content) parts at x d (λ y. refl) rise there) ∙ by_part d t (x.number == d) refl;
  } where
    by_slot : (t : ℕ) (b : Bool) → (t == slot) ≡ b → slice_index_or (slice_set x.slots.slots slot content) t None ≡ cond b content (slice_index_or x.slots.slots t None)
    by_slot t true e = ap (λ u. slice_index_or (slice_set x.slots.slots slot content) u None) (number_same t slot e) ∙ get_or-set_same x.slots.slots slot content None within
    by_slot t false e = get_or-set_other x.slots.slots slot t content None (number_other t slot e)

    by_part : (d t : ℕ) (b : Bool) → (x.number == d) ≡ b → seen_in (cond b (Some (with_content slot content x)) (part_of parts d)) t ≡ cond (d == x.number && t == slot) content (seen_at parts d t)
    by_part d t true e =
        let d_is : x.number ≡ d = number_same x.number d e in
        by_slot t (t == slot) refl
        ∙ ap (cond (t == slot) content) (sym (ap (λ o. seen_in o t) (ap (part_of parts) (sym d_is) ∙ own_part)))
        ∙ ap (λ b. cond (b && t == slot) content (seen_at parts d t)) (sym (number_back d x.number (sym d_is)))
    by_part d t false e = sym (ap (λ b. cond (b && t == slot) content (seen_at parts d t)) (number_apart x.number d e))

-- a new part with one row
module _ (parts : List Part) (at slot : ℕ) (alike : Shape) (used : UsedRow) (number : ℕ)
    (le : at ≤ length parts) (front : (k : ℕ) → k < at → number_at parts k < number) (back : (k : ℕ) → at ≤ k → k < length parts → number ≤ number_at parts k)
    (new : part_of parts number ≡ None) (rise : numbers_rise parts ≡ true) (within : slot < alike.size) where
  abbrev fresh : Part
  fresh = with_content slot (Some used) (record { number = number; slots = all_free alike.size alike.widths alike.kinds })

  free_slots : (t : ℕ) → slice_index_or (replicate {A = Option UsedRow} alike.size None) t None ≡ None
  free_slots t = all_none alike.size t where
    all_none : (n t : ℕ) → slice_index_or (replicate {A = Option UsedRow} n None) t None ≡ None
    all_none zero t = refl
    all_none (suc n) zero = refl
    all_none (suc n) (suc t) = all_none n t

  in_range : slot < length (replicate {A = Option UsedRow} alike.size None)
  in_range = let h = length-replicate {A = Option UsedRow} alike.size None in omega (arith, h, within)

  strictly : (k : ℕ) → at ≤ k → k < length parts → number < number_at parts k
  strictly k low lt = not_equal (number_at parts k) refl (back k low lt) where
    not_equal : (n : ℕ) → number_at parts k ≡ n → number ≤ n → number < number_at parts k
    not_equal n is h = ⊎_elim (λ (less : number < n). omega (arith, less, is)) (λ (more : n ≤ number). absurd (there (omega (arith, is, h, more)))) (cases_lt number n) where
      there : number_at parts k ≡ number → ⊥
      there e = let never : None ≡ Some (get_or parts k fresh) = sym new ∙ part_of-at parts number k fresh rise lt e in absurd cc

  pub added-shapes : map length used.vectors ≡ alike.widths → number < 2 ^ 32 → ArePartsOf alike parts → ArePartsOf alike (insert parts at fresh)
  added-shapes fits narrow are = record {
    rise = rise-inserted fresh parts at le front strictly are.rise;
    shaped = all-inserted (HasShape alike) fresh at parts le (record {
      long = length-set (replicate {A = Option UsedRow} alike.size None) slot (Some used) ∙ length-replicate {A = Option UsedRow} alike.size None;
      wide = refl;
      celled = refl;
      filled = any-set (replicate {A = Option UsedRow} alike.size None) slot used in_range;
      vectors = fits-set alike.widths (replicate {A = Option UsedRow} alike.size None) slot (Some used) in_range (only_fits alike.widths used fits) (λ t u is. let never : None ≡ Some u = sym (free_slots t) ∙ is in absurd cc);
      narrow = narrow;
    }) are.shaped;
  }

  pub added-at : IsChangedAt number slot (Some used) parts (insert parts at fresh)
  added-at = record {
    seen = λ d t. ap (λ o. seen_in o t) (part_of-inserted fresh parts at d le new) ∙ by_part d t (number == d) refl;
  } where
    by_slot : (t : ℕ) (b : Bool) → (t == slot) ≡ b → slice_index_or (slice_set (replicate {A = Option UsedRow} alike.size None) slot (Some used)) t None ≡ cond b (Some used) None
    by_slot t true e = ap (λ u. slice_index_or (slice_set (replicate {A = Option UsedRow} alike.size None) slot (Some used)) u None) (number_same t slot e) ∙ get_or-set_same (replicate {A = Option UsedRow} alike.size None) slot (Some used) None in_range
    by_slot t false e = get_or-set_other (replicate {A = Option UsedRow} alike.size None) slot t (Some used) None (number_other t slot e) ∙ free_slots t

    by_part : (d t : ℕ) (b : Bool) → (number == d) ≡ b → seen_in (cond b (Some fresh) (part_of parts d)) t ≡ cond (d == number && t == slot) (Some used) (seen_at parts d t)
    by_part d t true e =
        let d_is : number ≡ d = number_same number d e in
        let gone : seen_at parts d t ≡ None = ap (λ o. seen_in o t) (ap (part_of parts) (sym d_is) ∙ new) in
        by_slot t (t == slot) refl
        ∙ ap (cond (t == slot) (Some used)) (sym gone)
        ∙ ap (λ b. cond (b && t == slot) (Some used) (seen_at parts d t)) (sym (number_back d number (sym d_is)))
    by_part d t false e = sym (ap (λ b. cond (b && t == slot) (Some used) (seen_at parts d t)) (number_apart number d e))

-- a part with one row goes
module _ (parts : List Part) (at slot : ℕ) (x : Part)
    (rise : numbers_rise parts ≡ true) (lt : at < length parts) (there : slice_get parts at ≡ Some x)
    (used : is_some (slot_at x.slots slot) ≡ true) (few : count_by is_some x.slots.slots ≤ 1) where
  pub removed-shapes : KeepShapes parts (remove parts at)
  removed-shapes alike are = record { rise = rise-removed parts at lt are.rise; shaped = all-removed (HasShape alike) at parts lt are.shaped }

  pub removed-at : IsChangedAt x.number slot None parts (remove parts at)
  removed-at = record {
    seen = λ d t. ap (λ o. seen_in o t) (part_of-removed parts at x d rise there) ∙ by_part d t (x.number == d) refl;
  } where
    by_slot : (t : ℕ) (b : Bool) → (t == slot) ≡ b → None ≡ cond b None (slot_at x.slots t)
    by_slot t true e = refl
    by_slot t false e = sym (only-counted x.slots.slots slot t used few (number_other t slot e))

    by_part : (d t : ℕ) (b : Bool) → (x.number == d) ≡ b → seen_in (cond b None (part_of parts d)) t ≡ cond (d == x.number && t == slot) None (seen_at parts d t)
    by_part d t true e =
        let d_is : x.number ≡ d = number_same x.number d e in
        let own : seen_at parts d t ≡ slot_at x.slots t = ap (λ o. seen_in o t) (ap (part_of parts) (sym d_is) ∙ member_part parts at x rise there) in
        by_slot t (t == slot) refl
        ∙ ap (cond (t == slot) None) (sym own)
        ∙ ap (λ b. cond (b && t == slot) None (seen_at parts d t)) (sym (number_back d x.number (sym d_is)))
    by_part d t false e = sym (ap (λ b. cond (b && t == slot) None (seen_at parts d t)) (number_apart x.number d e))

-- the part at a place in range
pub part_at : (parts : List Part) (at : ℕ) → at < length parts → (x : Part) × ((slice_get parts at ≡ Some x) × (number_at parts at ≡ x.number))
part_at [] at lt = absurd (omega (arith, lt))
part_at (x ∷ xs) zero lt = (x, (refl, refl))
part_at (x ∷ xs) (suc at) lt = part_at xs at (omega arith)

pub get-is : (parts : List Part) (at : ℕ) (x : Part) → at < length parts → slice_get parts at ≡ Some x → (d : Part) → get_or parts at d ≡ x
get-is [] at x lt is d = absurd cc
get-is (y ∷ ys) zero x lt is d = let e : y ≡ x = cc in e
get-is (y ∷ ys) (suc at) x lt is d = get-is ys at x (omega arith) is d

-- the slot of what is seen is one of the part's
pub used_within : (xs : List (Option UsedRow)) (s : ℕ) → is_some (slice_index_or xs s None) ≡ true → s < length xs
used_within [] s h = absurd cc
used_within (x ∷ xs) zero h = omega arith
used_within (x ∷ xs) (suc s) h = let r = used_within xs s h in omega (arith, r)

-- ---- the changes that calls make

pub filled_at : (parts new : List Part) (at slot : ℕ) (rowid : ℤ) (columns : List Column) (values : List Value) → at < length parts → numbers_rise parts ≡ true → HoldsAt (CanTake slot columns values) at parts →
    new ≡ edited_at (with_content slot (taken_by rowid columns values)) at parts → IsChangedAt (number_at parts at) slot (taken_by rowid columns values) parts new × KeepShapes parts new
filled_at parts new at slot rowid columns values lt rise fits is =
    let p = part_at parts at lt in
    let can = fits p.0 p.1.0 in
    let used : UsedRow = record { rowid = rowid; vectors = vectors_of values; cells = cells_of columns values } in
    let shape = λ (alike : Shape) (h : HasShape alike p.0). placed-shape alike slot used p.0 can.within can.fits.vectors h in
    rw (is, p.1.1) (changed-at parts at slot p.0 (Some used) rise p.1.0 can.within shape, edited-shapes parts at slot p.0 (Some used) rise p.1.0 can.within shape)

pub freed_at : (parts new : List Part) (at slot : ℕ) → at < length parts → numbers_rise parts ≡ true → HoldsAt (λ part. is_some (slot_at part.slots slot) ≡ true) at parts → HoldsAt (λ part. 1 < count_by is_some part.slots.slots) at parts →
    new ≡ edited_at (with_content slot None) at parts → IsChangedAt (number_at parts at) slot None parts new × KeepShapes parts new
freed_at parts new at slot lt rise used many is =
    let p = part_at parts at lt in
    let within = used_within p.0.slots.slots slot (used p.0 p.1.0) in
    let shape = λ (alike : Shape) (h : HasShape alike p.0). dropped-shape alike slot p.0 within (many p.0 p.1.0) h in
    rw (is, p.1.1) (changed-at parts at slot p.0 None rise p.1.0 within shape, edited-shapes parts at slot p.0 None rise p.1.0 within shape)

pub left_at : (parts new : List Part) (at slot : ℕ) → at < length parts → numbers_rise parts ≡ true → HoldsAt (λ part. is_some (slot_at part.slots slot) ≡ true) at parts → HoldsAt (λ part. count_by is_some part.slots.slots ≤ 1) at parts →
    new ≡ remove parts at → IsChangedAt (number_at parts at) slot None parts new × KeepShapes parts new
left_at parts new at slot lt rise used few is =
    let p = part_at parts at lt in
    rw (is, p.1.1) (removed-at parts at slot p.0 rise lt p.1.0 (used p.0 p.1.0) (few p.0 p.1.0), removed-shapes parts at slot p.0 rise lt p.1.0 (used p.0 p.1.0) (few p.0 p.1.0))

-- ---- the part that a search finds

pub part_of-number : (parts : List Part) (c : ℕ) (x : Part) → part_of parts c ≡ Some x → x.number ≡ c
part_of-number [] c x is = absurd cc
part_of-number (y ∷ ys) c x is = by_test (y.number == c) refl is (λ later. part_of-number ys c x later) where
  by_test : (t : Bool) → (y.number == c) ≡ t → cond t (Some y) (part_of ys c) ≡ Some x → (part_of ys c ≡ Some x → x.number ≡ c) → x.number ≡ c
  by_test true e same rest = let x_is : y ≡ x = cc in ap (λ z. z.number) (sym x_is) ∙ number_same y.number c e
  by_test false e later rest = rest later

pub record IsFound (parts : List Part) (c at : ℕ) : Type 0 where
  pub part : Part
  pub there : slice_get parts at ≡ Some part
  pub named : part_of parts c ≡ Some part
  pub number : number_at parts at ≡ c

pub found_at : (parts : List Part) (c at : ℕ) → at < length parts → ((d : Part) → part_of parts c ≡ Some (get_or parts at d)) → IsFound parts c at
found_at parts c at lt is =
    let p = part_at parts at lt in
    let named : part_of parts c ≡ Some p.0 = is p.0 ∙ ap Some (get-is parts at p.0 lt p.1.0 p.0) in
    record { part = p.0; there = p.1.0; named = named; number = p.1.1 ∙ part_of-number parts c p.0 named }

member_such : {A : Type 0} (P : A → Type 0) (xs : List A) (at : ℕ) (x : A) → AllByRecursion P xs → slice_get xs at ≡ Some x → P x
member_such P [] at x all is = absurd cc
member_such P (y ∷ ys) zero x all is = let e : y ≡ x = cc in subst P e all.0
member_such P (y ∷ ys) (suc at) x all is = member_such P ys at x all.1 is

pub can_take : (parts : List Part) (c at slot : ℕ) (alike : Shape) (columns : List Column) (values : List Value) → ArePartsOf alike parts → IsFound parts c at → seen_at parts c slot ≡ None → slot < alike.size →
    RowFits alike.widths alike.kinds columns values → HoldsAt (CanTake slot columns values) at parts
can_take parts c at slot alike columns values are found free lt fits = λ x is.
    let same : Some found.part ≡ Some x = sym found.there ∙ is in
    let x_is : found.part ≡ x = cc in
    let shape : HasShape alike x = member_such (HasShape alike) parts at x are.shaped is in
    let long = shape.long in
    record {
      within = omega (arith, long, lt);
      free = ap (λ o. seen_in o slot) (ap Some (sym x_is) ∙ sym found.named) ∙ free;
      fits = record {
        vectors = fits.vectors ∙ sym shape.wide;
        columns_kinds = fits.columns_kinds ∙ sym shape.celled;
        cells = ap (λ ks. are_cell_values ks (cells_of columns values)) shape.celled ∙ fits.cells;
      };
    }

-- what is said of the part of a number is said at its place
pub holds_found : (P : Part → Type 0) (parts : List Part) (c at : ℕ) → IsFound parts c at → ((x : Part) → part_of parts c ≡ Some x → P x) → HoldsAt P at parts
holds_found P parts c at found each = λ x is.
    let same : Some found.part ≡ Some x = sym found.there ∙ is in
    let x_is : found.part ≡ x = cc in
    each x (found.named ∙ ap Some x_is)
