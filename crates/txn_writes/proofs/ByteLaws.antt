-- The bytes of all tables but one, as the sum over versions.
use Rattle.std.proofs.Common.{◌≡◌, ℕ, zero, suc, ◌+◌, ◌-◌, ◌≤◌, min, List, [], ◌∷◌, length, take, get_or, set, Option, Some, None, refl, sym, ap, ap₂, ◌∙◌, arith, add-one}
use Rattle.std.specs.Prelude.{sum_by}
use Rattle.std.proofs.Math.ListN.{get_or-map}
use Rattle.std.proofs.Math.Nat.{min-eq_left}
use Rattle.std.proofs.lemmas.List.{length-map, map-set, take_all}
use Rattle.std.proofs.lemmas.List.Sums.{sum_by-cons}
use Rattle.row_model.specs.declared.row.Named.{Named}
use Rattle.row_model.specs.declared.row.Row.{Row}
use Rattle.row_model.specs.Change.{elsewhere, other_tables, rows_side_bytes, rows_vector_bytes}
use Rattle.row_model.specs.Valid.{IsValidCatalog}
use Rattle.row_model.proofs.ValidityTables.{room_of}
use Rattle.shadow_records.specs.PlacedTables.{plain_rows}
use Rattle.table_version.specs.Versions.{VersionState}
use Rattle.table_writes.specs.declared.beside.Beside.{Beside}
use Rattle.table_writes.specs.Writing.{elsewhere_of}
use Rattle.vec_base.specs.declared.limits.TheConstants.{LAST_COUNT, MOST_SIDE_BYTES, MOST_TABLES, MOST_VECTOR_BYTES}
use Rattle.version_shelf.specs.Numbers.{IsNumber, catalog_of, numbered}
use Rattle.version_shelf.specs.OnShelf.{at_place, shown}
use Rattle.txn_writes.specs.inner.VersionBytes.{all_sides, all_vectors, sides_in, vectors_in}

-- ---- version by version

sum-suc : {A : Type 0} (f : Option A → ℕ) (xs : List (Option A)) (i : ℕ) → f None ≡ 0 → sum_by f (take (suc i) xs) ≡ sum_by f (take i xs) + f (get_or xs i None)
sum-suc f [] zero none = (let none_too : 0 ≡ 0 + f None = omega (arith, none) in none_too)
sum-suc f [] (suc i) none = (let none_too : 0 ≡ 0 + f None = omega (arith, none) in none_too)
sum-suc f (x ∷ xs) zero none = (let one = sum_by-cons f x [] in omega (arith, one))
sum-suc f (x ∷ xs) (suc i) none =
    let more = sum_by-cons f x (take (suc i) xs) in
    let less = sum_by-cons f x (take i xs) in
    let rest = sum-suc f xs i none in
    omega (arith, more, less, rest)

pub capped-more : {A : Type 0} (f : Option A → ℕ) (xs : List (Option A)) (i most total more : ℕ) → f None ≡ 0 → total ≡ min (sum_by f (take i xs)) most → more ≡ f (get_or xs i None) → min (total + more) most ≡ min (sum_by f (take (i + 1) xs)) most
capped-more f xs i most total more none so one =
    let sum : sum_by f (take (i + 1) xs) ≡ sum_by f (take i xs) + f (get_or xs i None) = rw (add-one i) (sum-suc f xs i none) in
    grind (arith, so, one, sum)

-- the same where the versions are those of places
pub capped-place : (f : Option VersionState → ℕ) (shelf : List (Option VersionState)) (places : List (Option ℕ)) (at most total more : ℕ) → f None ≡ 0 → total ≡ min (sum_by f (take at (shown shelf places))) most →
    more ≡ f (at_place shelf (get_or places (at + 1 - 1) None)) → min (total + more) most ≡ min (sum_by f (take (at + 1) (shown shelf places))) most
capped-place f shelf places at most total more none so one =
    let back : at + 1 - 1 ≡ at = omega arith in
    capped-more f (shown shelf places) at most total more none so (one ∙ ap (λ n. f (at_place shelf (get_or places n None))) back ∙ ap f (sym (get_or-map (at_place shelf) places at None)))

pub all-taken : (shelf : List (Option VersionState)) (places : List (Option ℕ)) (at : ℕ) → length places ≡ MOST_TABLES → MOST_TABLES ≤ at → take at (shown shelf places) ≡ shown shelf places
all-taken shelf places at long far = take_all at (shown shelf places) (let size : length (shown shelf places) ≡ length places = length-map places (at_place shelf) in omega (arith, size, long, far))

-- ---- table by table

pub sum-numbered : (f : List Row → ℕ) (g : Option VersionState → ℕ) → ((v : VersionState) → g (Some v) ≡ f (plain_rows v.table.rows)) → g None ≡ 0 → (base : ℕ) (vs : List (Option VersionState)) →
    sum_by (λ (named : Named). f named.table.rows) (numbered base vs) ≡ sum_by g vs
sum-numbered f g same none base [] = refl
sum-numbered f g same none base (None ∷ vs) =
    let rest = sum-numbered f g same none (suc base) vs in
    let one = sum_by-cons g None vs in
    omega (arith, rest, one, none)
sum-numbered f g same none base (Some v ∷ vs) =
    let rest = sum-numbered f g same none (suc base) vs in
    let one = sum_by-cons g (Some v) vs in
    let here = sum_by-cons (λ (named : Named). f named.table.rows) (record { number = base; name = v.table.name; table = record { schema = v.table.schema; rows = plain_rows v.table.rows; top = v.table.top } }) (numbered (suc base) vs) in
    let is = same v in
    omega (arith, rest, one, here, is)

others-are : (name : List ℕ) (shelf : List (Option VersionState)) (places : List (Option ℕ)) (number : ℕ) → IsNumber name (shown shelf places) number → IsValidCatalog (catalog_of (shown shelf places)) →
    numbered 1 (shown shelf (set places (number - 1) None)) ≡ other_tables name (numbered 1 (shown shelf places))
others-are name shelf places number n valid = ap (numbered 1) (map-set (at_place shelf) places (number - 1) None) ∙ sym (n.from.gone valid.own_names)

pub beside-is : (name : List ℕ) (shelf : List (Option VersionState)) (places : List (Option ℕ)) (number : ℕ) (beside : Beside) → IsNumber name (shown shelf places) number → IsValidCatalog (catalog_of (shown shelf places)) →
    beside.vectors ≡ min (all_vectors (shown shelf (set places (number - 1) None))) LAST_COUNT →
    beside.sides ≡ min (all_sides (shown shelf (set places (number - 1) None))) LAST_COUNT →
    elsewhere_of beside ≡ elsewhere name (catalog_of (shown shelf places))
beside-is name shelf places number beside n valid vectors sides =
    let others = shown shelf (set places (number - 1) None) in
    let are = others-are name shelf places number n valid in
    let room = room_of (catalog_of (shown shelf places)) name n.from.found valid n.from.is in
    let all_v : (elsewhere name (catalog_of (shown shelf places))).vectors ≡ all_vectors others =
    ap (sum_by (λ (named : Named). rows_vector_bytes named.table.rows)) (sym are) ∙ sum-numbered rows_vector_bytes vectors_in (λ v. refl) refl 1 others in
    let all_s : (elsewhere name (catalog_of (shown shelf places))).sides ≡ all_sides others =
    ap (sum_by (λ (named : Named). rows_side_bytes named.table.rows)) (sym are) ∙ sum-numbered rows_side_bytes sides_in (λ v. refl) refl 1 others in
    let few_v : (elsewhere name (catalog_of (shown shelf places))).vectors + rows_vector_bytes n.from.found.table.rows ≤ MOST_VECTOR_BYTES = room.vectors in
    let few_s : (elsewhere name (catalog_of (shown shelf places))).sides + rows_side_bytes n.from.found.table.rows ≤ MOST_SIDE_BYTES = room.sides in
    let same_v : beside.vectors ≡ (elsewhere name (catalog_of (shown shelf places))).vectors = vectors ∙ min-eq_left (omega (arith, all_v, few_v)) ∙ sym all_v in
    let same_s : beside.sides ≡ (elsewhere name (catalog_of (shown shelf places))).sides = sides ∙ min-eq_left (omega (arith, all_s, few_s)) ∙ sym all_s in
    ap₂ (λ v s. record { vectors = v; sides = s }) same_v same_s
