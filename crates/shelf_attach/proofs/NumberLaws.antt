-- Tables by rising numbers, and the versions under them.
use Rattle.std.proofs.Common.{◌≡◌, ℕ, zero, suc, ◌+◌, ◌-◌, ◌<◌, ◌≤◌, Bool, true, false, cond, List, [], ◌∷◌, ◌++◌, length, map, refl, sym, ap, ◌∙◌, subst, arith, Option, Some, None, ◌⊎◌, inl, inr, ⊎_elim}
use Rattle.std.specs.Prelude.{◌==◌, ◌&&◌, nat_le, nat_lt, replicate, slice_index_or, slice_set}
use Rattle.std.specs.List.{AllByRecursion}
use Rattle.std.proofs.lemmas.Bool.{and_parts, cond-false, cond-true, eq-eqb, eqb-true, le-leb, leb-true, lt-ltb, ltb-false, ltb-true, ne_eqb}
use Rattle.std.proofs.lemmas.List.{get_or-set_same, get_or-set_other}
use Rattle.row_model.specs.Valid.{numbers_rise}
use Rattle.shadow_records.specs.PlacedTables.{IsPlaced, PlacedTable}
use Rattle.shadow_records.specs.StandsFor.{NumberedTable, named, table_of}
use Rattle.table_version.specs.Versions.{VersionState}
use Rattle.vec_base.specs.declared.limits.TheConstants.{MOST_TABLES}
use Rattle.version_shelf.specs.Numbers.{named_as, numbered, under}
use Rattle.version_shelf.specs.OnShelf.{at_place, shown}

abbrev pub numbered_as : ℕ → PlacedTable → NumberedTable
numbered_as number table = record { number = number; table = table }

-- ---- the table of a number

own_number : (n : ℕ) (v : PlacedTable) (o : Option PlacedTable) → cond (n == n) (Some v) o ≡ Some v
own_number n v o = cond-true (n == n) (Some v) o (eq-eqb n n refl)

other_number : (a b : ℕ) (v : PlacedTable) (o : Option PlacedTable) → (a ≡ b → ⊥) → cond (a == b) (Some v) o ≡ o
other_number a b v o apart = cond-false (a == b) (Some v) o (ne_eqb a b apart)

pub of_append_none : (xs ys : List NumberedTable) (n : ℕ) → table_of xs n ≡ None → table_of (xs ++ ys) n ≡ table_of ys n
of_append_none [] ys n none = refl
of_append_none (x ∷ xs) ys n none = at (x.number == n) none (of_append_none xs ys n) where
  at : (b : Bool) → cond b (Some x.table) (table_of xs n) ≡ None → (table_of xs n ≡ None → table_of (xs ++ ys) n ≡ table_of ys n) → cond b (Some x.table) (table_of (xs ++ ys) n) ≡ table_of ys n
  at true none more = absurd cc
  at false none more = more none

pub of_append_other : (xs : List NumberedTable) (number : ℕ) (v : PlacedTable) (n : ℕ) → (number ≡ n → ⊥) → table_of (xs ++ numbered_as number v ∷ []) n ≡ table_of xs n
of_append_other [] number v n apart = other_number number n v None apart
of_append_other (x ∷ xs) number v n apart = ap (λ o. cond (x.number == n) (Some x.table) o) (of_append_other xs number v n apart)

pub of_append_own : (xs : List NumberedTable) (number : ℕ) (v : PlacedTable) → table_of xs number ≡ None → table_of (xs ++ numbered_as number v ∷ []) number ≡ Some v
of_append_own xs number v none = of_append_none xs (numbered_as number v ∷ []) number none ∙ own_number number v None

-- a fact of all numbers that have a table
pub each_number : (Meets : ℕ → Type 0) (xs : List NumberedTable) → ((n : ℕ) (v : PlacedTable) → table_of xs n ≡ Some v → Meets n) → AllByRecursion (λ (t : NumberedTable). Meets t.number) xs
each_number Meets [] each = tt
each_number Meets (x ∷ xs) each = (each x.number x.table (own_number x.number x.table (table_of xs x.number)), each_number Meets xs later) where
  some : (b : Bool) (n : ℕ) (v : PlacedTable) → table_of xs n ≡ Some v → (w : PlacedTable) × (cond b (Some x.table) (table_of xs n) ≡ Some w)
  some true n v is = (x.table, refl)
  some false n v is = (v, is)

  later : (n : ℕ) (v : PlacedTable) → table_of xs n ≡ Some v → Meets n
  later n v is = let found = some (x.number == n) n v is in each n found.0 found.1

pub each_placed : (xs : List NumberedTable) (n : ℕ) (v : PlacedTable) → AllByRecursion (λ (t : NumberedTable). IsPlaced t.table) xs → table_of xs n ≡ Some v → IsPlaced v
each_placed [] n v all is = absurd cc
each_placed (x ∷ xs) n v all is = at (x.number == n) is (each_placed xs n v) where
  at : (b : Bool) → cond b (Some x.table) (table_of xs n) ≡ Some v → (AllByRecursion (λ (t : NumberedTable). IsPlaced t.table) xs → table_of xs n ≡ Some v → IsPlaced v) → IsPlaced v
  at true is more = (let same : x.table ≡ v = cc in subst IsPlaced same all.0)
  at false is more = more all.1 is

-- ---- rising numbers

rise_parts : (before : ℕ) (x : NumberedTable) (xs : List NumberedTable) → numbers_rise before (map named (x ∷ xs)) ≡ true → (before < x.number) × ((x.number ≤ MOST_TABLES) × (numbers_rise x.number (map named xs) ≡ true))
rise_parts before x xs rise =
    let first = and_parts (nat_lt before x.number) (nat_le x.number MOST_TABLES && numbers_rise x.number (map named xs)) rise in
    let more = and_parts (nat_le x.number MOST_TABLES) (numbers_rise x.number (map named xs)) first.1 in
    (ltb-true before x.number first.0, (leb-true x.number MOST_TABLES more.0, more.1))

pub number_bounds : (before : ℕ) (xs : List NumberedTable) (n : ℕ) (v : PlacedTable) → numbers_rise before (map named xs) ≡ true → table_of xs n ≡ Some v → (before < n) × (n ≤ MOST_TABLES)
number_bounds before [] n v rise is = absurd cc
number_bounds before (x ∷ xs) n v rise is = at (x.number == n) refl is (number_bounds x.number xs n v parts.1.1) where
  parts : (before < x.number) × ((x.number ≤ MOST_TABLES) × (numbers_rise x.number (map named xs) ≡ true))
  parts = rise_parts before x xs rise

  at : (b : Bool) → (x.number == n) ≡ b → cond b (Some x.table) (table_of xs n) ≡ Some v → (table_of xs n ≡ Some v → (x.number < n) × (n ≤ MOST_TABLES)) → (before < n) × (n ≤ MOST_TABLES)
  at true same is more = let own = eqb-true x.number n same in let low = parts.0 in let high = parts.1.0 in (omega (arith, own, low), omega (arith, own, high))
  at false other is more = let later = more is in let low = parts.0 in let above = later.0 in (omega (arith, low, above), later.1)

-- no table has a number that is not above
pub none_not_above : (before : ℕ) (xs : List NumberedTable) (n : ℕ) → numbers_rise before (map named xs) ≡ true → n ≤ before → table_of xs n ≡ None
none_not_above before xs n rise low = at (table_of xs n) refl where
  at : (o : Option PlacedTable) → table_of xs n ≡ o → o ≡ None
  at None is = refl
  at (Some v) is = let above = (number_bounds before xs n v rise is).0 in absurd (omega (arith, above, low))

pub rise_more : (before : ℕ) (xs : List NumberedTable) (n : ℕ) (v : PlacedTable) → numbers_rise before (map named xs) ≡ true → AllByRecursion (λ (t : NumberedTable). t.number < n) xs → before < n → n ≤ MOST_TABLES →
    numbers_rise before (map named (xs ++ numbered_as n v ∷ [])) ≡ true
rise_more before [] n v rise all low high = (let less : nat_lt before n ≡ true = grind (arith, low) in let most : nat_le n MOST_TABLES ≡ true = grind (arith, high) in rw (less, most) refl)
rise_more before (x ∷ xs) n v rise all low high =
    let parts = rise_parts before x xs rise in
    let less : nat_lt before x.number ≡ true = lt-ltb before x.number parts.0 in
    let most : nat_le x.number MOST_TABLES ≡ true = le-leb x.number MOST_TABLES parts.1.0 in
    rw (less, most) (rise_more x.number xs n v parts.1.1 all.1 all.0 high)

-- ---- the same tables up to a number

some_none : (v : PlacedTable) → Some v ≡ None → ⊥
some_none v e = cc

same_table : (v w : PlacedTable) → Some v ≡ Some w → v ≡ w
same_table v w e = cc

abbrev pub Begins : List NumberedTable → ℕ → PlacedTable → List NumberedTable → Type 0
Begins xs n v ys = (rest : List NumberedTable) × (ys ≡ xs ++ numbered_as n v ∷ rest)

abbrev pub AreSame : ℕ → ℕ → List NumberedTable → List NumberedTable → Type 0
AreSame before n xs ys = (m : ℕ) → before < m → m < n → table_of ys m ≡ table_of xs m

trichotomy : (a b : ℕ) → (a < b) ⊎ ((a ≡ b) ⊎ (b < a))
trichotomy a b = by_test (nat_lt a b) (nat_lt b a) refl refl where
  by_test : (s t : Bool) → nat_lt a b ≡ s → nat_lt b a ≡ t → (a < b) ⊎ ((a ≡ b) ⊎ (b < a))
  by_test true t x y = inl (ltb-true a b x)
  by_test false true x y = inr (inr (ltb-true b a y))
  by_test false false x y = let p = ltb-false a b x in let q = ltb-false b a y in inr (inl (omega (arith, p, q)))

-- Where tables have all those of some others below a number, and this table under the number, they begin with those.
pub begins : (before : ℕ) (xs ys : List NumberedTable) (n : ℕ) (v : PlacedTable) → numbers_rise before (map named xs) ≡ true → numbers_rise before (map named ys) ≡ true →
    AllByRecursion (λ (t : NumberedTable). t.number < n) xs → table_of ys n ≡ Some v → AreSame before n xs ys → Begins xs n v ys
begins before [] [] n v risex risey all there same = absurd cc
begins before [] (y ∷ ys) n v risex risey all there same =
    let parts = rise_parts before y ys risey in
    ⊎_elim
    (λ (less : y.number < n). absurd (some_none y.table (sym (own_number y.number y.table (table_of ys y.number)) ∙ same y.number parts.0 less)))
    (λ other. ⊎_elim
    (λ (own : y.number ≡ n).
    let table = same_table y.table v (sym (own_number y.number y.table (table_of ys y.number)) ∙ ap (table_of (y ∷ ys)) own ∙ there) in
    (ys, λ i. record { number = own i; table = table i } ∷ ys))
    (λ (more : n < y.number).
    absurd (some_none v (sym there ∙ other_number y.number n y.table (table_of ys n) (λ e. absurd (omega (arith, more, e))) ∙ none_not_above y.number ys n parts.1.1 (omega (arith, more)))))
    other)
    (trichotomy y.number n)
begins before (x ∷ xs) [] n v risex risey all there same =
    absurd (some_none x.table (sym (own_number x.number x.table (table_of xs x.number)) ∙ sym (same x.number (rise_parts before x xs risex).0 all.0)))
begins before (x ∷ xs) (y ∷ ys) n v risex risey all there same =
    let px = rise_parts before x xs risex in
    let py = rise_parts before y ys risey in
    let below = all.0 in
    ⊎_elim
    (λ (less : x.number < y.number).
    absurd (some_none x.table (sym (own_number x.number x.table (table_of xs x.number)) ∙ sym (same x.number px.0 all.0)
    ∙ other_number y.number x.number y.table (table_of ys x.number) (λ e. absurd (omega (arith, less, e))) ∙ none_not_above y.number ys x.number py.1.1 (omega (arith, less)))))
    (λ other. ⊎_elim
    (λ (one : x.number ≡ y.number).
    let table = same_table y.table x.table (sym (own_number y.number y.table (table_of ys y.number)) ∙ same y.number py.0 (omega (arith, one, below)) ∙ ap (table_of (x ∷ xs)) (sym one) ∙ own_number x.number x.table (table_of xs x.number)) in
    let rest = begins x.number xs ys n v px.1.1 (ap (λ m. numbers_rise m (map named ys)) one ∙ py.1.1) all.1
    (sym (other_number y.number n y.table (table_of ys n) (λ e. absurd (omega (arith, e, one, below)))) ∙ there)
    (λ m above low.
    sym (other_number y.number m y.table (table_of ys m) (λ e. absurd (omega (arith, e, one, above))))
    ∙ same m (let first = px.0 in omega (arith, first, above)) low
    ∙ other_number x.number m x.table (table_of xs m) (λ e. absurd (omega (arith, e, above)))) in
    (rest.0, (λ i. record { number = sym one i; table = table i } ∷ ys) ∙ ap (λ l. x ∷ l) rest.1))
    (λ (more : y.number < x.number).
    absurd (some_none y.table (sym (own_number y.number y.table (table_of ys y.number)) ∙ same y.number py.0 (omega (arith, more, below))
    ∙ other_number x.number y.number x.table (table_of xs y.number) (λ e. absurd (omega (arith, more, e))) ∙ none_not_above x.number xs y.number px.1.1 (omega (arith, more)))))
    other)
    (trichotomy x.number y.number)

-- ---- versions

-- nothing stands under the number and those behind it
abbrev pub NoneFrom : List (Option VersionState) → ℕ → Type 0
NoneFrom versions at = (i : ℕ) → at ≤ i → slice_index_or versions i None ≡ None

none_left : (base : ℕ) (versions : List (Option VersionState)) → NoneFrom versions 0 → numbered base versions ≡ []
none_left base [] none = refl
none_left base (o ∷ versions) none = at o (none 0 (omega arith)) (none_left (suc base) versions (λ i low. none (suc i) (omega arith))) where
  at : (o : Option VersionState) → o ≡ None → numbered (suc base) versions ≡ [] → numbered base (o ∷ versions) ≡ []
  at None is rest = rest
  at (Some v) is rest = absurd cc

none_at : (base : ℕ) (o : Option VersionState) (versions : List (Option VersionState)) → o ≡ None → numbered base (o ∷ versions) ≡ numbered (suc base) versions
none_at base None versions is = refl
none_at base (Some v) versions is = absurd cc

pub numbered_more : (base at : ℕ) (versions : List (Option VersionState)) (v : VersionState) → at < length versions → NoneFrom versions at → numbered base (slice_set versions at (Some v)) ≡ numbered base versions ++ named_as (base + at) v ∷ []
numbered_more base at [] v within none = absurd (omega (arith, within))
numbered_more base zero (o ∷ versions) v within none =
    let rest = none_left (suc base) versions (λ i low. none (suc i) (omega arith)) in
    let first = none_at base o versions (none 0 (omega arith)) in
    let own : base ≡ base + 0 = omega arith in
    ap (λ l. named_as base v ∷ l) rest ∙ ap (λ n. named_as n v ∷ []) own ∙ ap (λ l. l ++ named_as (base + 0) v ∷ []) (sym (first ∙ rest))
numbered_more base (suc at) (None ∷ versions) v within none =
    let same : suc base + at ≡ base + suc at = omega arith in
    numbered_more (suc base) at versions v (omega (arith, within)) (λ i low. none (suc i) (omega (arith, low))) ∙ ap (λ n. numbered (suc base) versions ++ named_as n v ∷ []) same
numbered_more base (suc at) (Some w ∷ versions) v within none =
    let same : suc base + at ≡ base + suc at = omega arith in
    ap (λ l. named_as base w ∷ l) (numbered_more (suc base) at versions v (omega (arith, within)) (λ i low. none (suc i) (omega (arith, low))) ∙ ap (λ n. numbered (suc base) versions ++ named_as n v ∷ []) same)

pub under_own : (versions : List (Option VersionState)) (n : ℕ) (v : VersionState) → 1 ≤ n → n ≤ length versions → under n (slice_set versions (n - 1) (Some v)) ≡ Some v
under_own versions zero v low high = absurd (omega (arith, low))
under_own versions (suc at) v low high =
    let same : suc at - 1 ≡ at = omega arith in
    ap (λ i. slice_index_or (slice_set versions i (Some v)) at None) same ∙ get_or-set_same versions at (Some v) None (omega (arith, high))

pub under_other : (versions : List (Option VersionState)) (n m : ℕ) (v : VersionState) → 1 ≤ n → (m ≡ n → ⊥) → under m (slice_set versions (n - 1) (Some v)) ≡ under m versions
under_other versions n zero v low apart = refl
under_other versions n (suc i) v low apart = get_or-set_other versions (n - 1) i (Some v) None (λ e. absurd (omega (arith, apart, low, e)))

-- ---- no versions

none_shown : (shelf : List (Option VersionState)) (n i : ℕ) → slice_index_or (map (at_place shelf) (replicate n None)) i None ≡ None
none_shown shelf zero i = refl
none_shown shelf (suc n) zero = refl
none_shown shelf (suc n) (suc i) = none_shown shelf n i

pub none_under : (shelf : List (Option VersionState)) (n number : ℕ) → under number (shown shelf (replicate n None)) ≡ None
none_under shelf n zero = refl
none_under shelf n (suc i) = none_shown shelf n i

pub none_numbered : (shelf : List (Option VersionState)) (base n : ℕ) → numbered base (shown shelf (replicate n None)) ≡ []
none_numbered shelf base zero = refl
none_numbered shelf base (suc n) = none_numbered shelf (suc base) n
