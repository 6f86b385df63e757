-- Rows that are changed or removed one after another, by the rowids of those that pass a test.
use Rattle.std.proofs.Common.{◌≡◌, add-one, ℕ, zero, suc, ℤ, ◌+◌, ◌<◌, Bool, true, false, cond, List, [], ◌∷◌, drop, get_or, length, map, refl, sym, ap, subst, ◌∙◌, arith}
use Rattle.std.specs.Prelude.{filter, int_lt, not, if◌then◌else◌}
use Rattle.std.specs.List.{list_all, AllByRecursion}
use Rattle.std.specs.Ordering.{int_eq}
use Rattle.std.proofs.lemmas.Bool.{and_parts, and_from}
use Rattle.std.proofs.lemmas.Int.{ints}
use Rattle.row_model.specs.Rows.{is_rising}
use Rattle.row_model.specs.declared.row.Row.{Row}
use Rattle.row_model.specs.declared.schema.Column.{Column}
use Rattle.row_model.specs.declared.statement.Assign.{Assign}
use Rattle.table_writes.specs.inner.OneByOne.{one_by_one, set_one, with_sets, without}

-- ---- lists

-- the element that comes next
pub drop_next : {A : Type 0} (xs : List A) (k : ℕ) (x d : A) → k < length xs → x ≡ get_or xs k d → drop k xs ≡ x ∷ drop (k + 1) xs
drop_next [] k x d low is = absurd (omega arith)
drop_next {A} (y ∷ ys) zero x d low is = ap (λ (z : A). z ∷ ys) (sym is)
drop_next {A} (y ∷ ys) (suc k) x d low is =
    drop_next ys k x d (omega (arith, low)) is ∙ ap (λ n. x ∷ drop n ys) (add-one k) ∙ sym (ap (λ n. x ∷ drop n (y ∷ ys)) (add-one (suc k)))

-- what holds of each holds of the one at a place
pub each_at : {A : Type 0} (P : A → Type 0) (xs : List A) (k : ℕ) (x d : A) → AllByRecursion P xs → k < length xs → x ≡ get_or xs k d → P x
each_at P [] k x d all low is = absurd (omega arith)
each_at P (y ∷ ys) zero x d all low is = subst P (sym is) all.0
each_at P (y ∷ ys) (suc k) x d all low is = each_at P ys k x d all.1 (omega (arith, low)) is

-- ---- rowids

eq_self : (a : ℤ) → int_eq a a ≡ true
eq_self a = grind (arith, ints)

pub not_equal : (a b : ℤ) → int_lt a b ≡ true → int_eq a b ≡ false
not_equal a b h = grind (arith, ints)

not_equal_back : (a b : ℤ) → int_lt a b ≡ true → int_eq b a ≡ false
not_equal_back a b h = grind (arith, ints)

-- the rowids of the rows that pass
abbrev pub ids_of : (Row → Bool) → List Row → List ℤ
ids_of such rows = map (λ (r : Row). r.rowid) (filter such rows)

abbrev pub all_above : ℤ → List Row → Bool
all_above n rows = list_all (λ (r : Row). int_lt n r.rowid) rows

-- rowids of rows above a number are above it
pub ids_above : (n : ℤ) (such : Row → Bool) (rows : List Row) → all_above n rows ≡ true → list_all (λ (i : ℤ). int_lt n i) (ids_of such rows) ≡ true
ids_above n such [] all = refl
ids_above n such (x ∷ xs) all =
    let parts = and_parts (int_lt n x.rowid) (all_above n xs) all in
    elim (such x) as (λ b. list_all (λ (i : ℤ). int_lt n i) (map (λ (r : Row). r.rowid) (cond b (x ∷ filter such xs) (filter such xs))) ≡ true)
    [ true ↦ and_from _ _ parts.0 (ids_above n such xs parts.1) | false ↦ ids_above n such xs parts.1 ]

-- a step that leaves each row of another rowid where it is
record IsStep (step : ℤ → List Row → List Row) : Type 0 where
  passes : (i : ℤ) (x : Row) (xs : List Row) → int_eq x.rowid i ≡ false → step i (x ∷ xs) ≡ x ∷ step i xs
  ends : (i : ℤ) → step i [] ≡ []

-- rows above the rowid stay
stays : (step : ℤ → List Row → List Row) → IsStep step → (i : ℤ) (xs : List Row) → all_above i xs ≡ true → step i xs ≡ xs
stays step is i [] all = is.ends i
stays step is i (x ∷ xs) all =
    let parts = and_parts (int_lt i x.rowid) (all_above i xs) all in
    is.passes i x xs (not_equal_back i x.rowid parts.0) ∙ ap (λ (ys : List Row). x ∷ ys) (stays step is i xs parts.1)

-- a row stays in front of steps for rowids above it
stays_first : (step : ℤ → List Row → List Row) → IsStep step → (x : Row) (ids : List ℤ) (xs : List Row) → list_all (λ (i : ℤ). int_lt x.rowid i) ids ≡ true →
    one_by_one step ids (x ∷ xs) ≡ x ∷ one_by_one step ids xs
stays_first step is x [] xs all = refl
stays_first step is x (i ∷ ids) xs all =
    let parts = and_parts (int_lt x.rowid i) (list_all (λ (j : ℤ). int_lt x.rowid j) ids) all in
    ap (one_by_one step ids) (is.passes i x xs (not_equal x.rowid i parts.0)) ∙ stays_first step is x ids (step i xs) parts.1

-- ---- rows that go

without_step : IsStep without
without_step = record {
  passes = λ i x xs other. ap (λ b. cond (not b) (x ∷ without i xs) (without i xs)) other;
  ends = λ i. refl;
}

pub removed_all : (such : Row → Bool) (rows : List Row) → is_rising rows ≡ true → one_by_one without (ids_of such rows) rows ≡ filter (λ r. not (such r)) rows
removed_all such [] rising = refl
removed_all such (x ∷ xs) rising =
    let parts = and_parts (all_above x.rowid xs) (is_rising xs) rising in
    let rest = removed_all such xs parts.1 in
    let here : without x.rowid (x ∷ xs) ≡ xs = ap (λ b. cond (not b) (x ∷ without x.rowid xs) (without x.rowid xs)) (eq_self x.rowid) ∙ stays without without_step x.rowid xs parts.0 in
    elim (such x) as (λ b. one_by_one without (map (λ (r : Row). r.rowid) (cond b (x ∷ filter such xs) (filter such xs))) (x ∷ xs) ≡ cond (not b) (x ∷ filter (λ r. not (such r)) xs) (filter (λ r. not (such r)) xs)) [
      | true ↦ ap (one_by_one without (ids_of such xs)) here ∙ rest
      | false ↦ stays_first without without_step x (ids_of such xs) xs (ids_above x.rowid such xs parts.0) ∙ ap (λ (ys : List Row). x ∷ ys) rest
    ]

-- ---- rows that change

set_step : (columns : List Column) (sets : List Assign) → IsStep (set_one columns sets)
set_step columns sets = record {
  passes = λ i x xs other. ap (λ b. (if b then with_sets columns sets x else x) ∷ set_one columns sets i xs) other;
  ends = λ i. refl;
}

pub set_all_rows : (columns : List Column) (sets : List Assign) (such : Row → Bool) (rows : List Row) → is_rising rows ≡ true →
    one_by_one (set_one columns sets) (ids_of such rows) rows ≡ map (λ (r : Row). if such r then with_sets columns sets r else r) rows
set_all_rows columns sets such [] rising = refl
set_all_rows columns sets such (x ∷ xs) rising =
    let parts = and_parts (all_above x.rowid xs) (is_rising xs) rising in
    let rest = set_all_rows columns sets such xs parts.1 in
    let step = set_one columns sets in
    let new = with_sets columns sets x in
    let above = ids_above x.rowid such xs parts.0 in
    let here : step x.rowid (x ∷ xs) ≡ new ∷ xs =
    ap (λ b. (if b then new else x) ∷ step x.rowid xs) (eq_self x.rowid) ∙ ap (λ (ys : List Row). new ∷ ys) (stays step (set_step columns sets) x.rowid xs parts.0) in
    elim (such x) as (λ b. one_by_one step (map (λ (r : Row). r.rowid) (cond b (x ∷ filter such xs) (filter such xs))) (x ∷ xs)
    ≡ (if b then new else x) ∷ map (λ (r : Row). if such r then with_sets columns sets r else r) xs) [
      | true ↦ ap (one_by_one step (ids_of such xs)) here ∙ stays_first step (set_step columns sets) new (ids_of such xs) xs above ∙ ap (λ (ys : List Row). new ∷ ys) rest
      | false ↦ stays_first step (set_step columns sets) x (ids_of such xs) xs above ∙ ap (λ (ys : List Row). x ∷ ys) rest
    ]
