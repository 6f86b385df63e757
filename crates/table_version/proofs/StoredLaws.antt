-- Stored rows and the rows of a table: what is found among the ones is found among the others.
use Rattle.std.proofs.Common.{◌≡◌, ℕ, ℤ, Bool, true, false, cond, List, [], ◌∷◌, ◌∙◌, refl, sym, ap, ap₂, subst, map, Option, Some, None}
use Rattle.std.specs.Prelude.{◌==◌, ◌&&◌, int_lt, not, find, if◌then◌else◌}
use Rattle.std.specs.List.{AllByRecursion}
use Rattle.std.specs.Option.{option_map}
use Rattle.std.specs.Ordering.{int_eq}
use Rattle.std.proofs.lemmas.Bool.{eqb-true, eq-eqb}
use Rattle.row_model.specs.declared.schema.Column.{Column}
use Rattle.row_store.specs.StoredRows.{StoredRow, has_text, is_above, lies_at, rowid_of, row_of as stored_of, row_at as stored_at, first_in as first_stored, row_with_id as stored_with_id, next_row as next_stored, with_row, without}
use Rattle.shadow_records.specs.PlacedTables.{PlacedRow, is_at, row_at, row_of, first_in}
use Rattle.table_version.specs.Kept.{id_in}
use Rattle.table_version.specs.PlacedRows.{with_placed, without_placed}
use Rattle.table_version.specs.Versions.{rowid_in, next_row, row_with_id}
use Rattle.table_version.specs.Inserting.{partition_in}
use Rattle.table_version.specs.inner.StoredTables.{placed, placed_rows, GivesAgain}

-- ---- lists of other elements, and other tests

pub find-map : {A B : Type 0} (f : A → B) (test : B → Bool) (xs : List A) → find test (map f xs) ≡ option_map f (find (λ x. test (f x)) xs)
find-map f test [] = refl
find-map {A} {B} f test (x ∷ xs) = by_test (test (f x)) (find-map f test xs) where
  by_test : (t : Bool) → find test (map f xs) ≡ option_map f (find (λ y. test (f y)) xs) → cond t (Some (f x)) (find test (map f xs)) ≡ option_map f (cond t (Some x) (find (λ y. test (f y)) xs))
  by_test true rest = refl
  by_test false rest = rest

pub find-alike : {A : Type 0} (p q : A → Bool) (xs : List A) → AllByRecursion (λ x. p x ≡ q x) xs → find p xs ≡ find q xs
find-alike p q [] same = refl
find-alike p q (x ∷ xs) same = ap₂ (λ (t : Bool) (rest : Option _). cond t (Some x) rest) same.0 (find-alike p q xs same.1)

pub each : {A : Type 0} (P : A → Type 0) (xs : List A) → ((x : A) → P x) → AllByRecursion P xs
each P [] all = tt
each P (x ∷ xs) all = (all x, each P xs all)

pub weaken : {A : Type 0} (P Q : A → Type 0) (xs : List A) → ((x : A) → P x → Q x) → AllByRecursion P xs → AllByRecursion Q xs
weaken P Q [] step all = tt
weaken P Q (x ∷ xs) step all = (step x all.0, weaken P Q xs step all.1)

-- what is found is one of the elements
pub found-one : {A : Type 0} (P : A → Type 0) (test : A → Bool) (xs : List A) (x : A) → AllByRecursion P xs → find test xs ≡ Some x → P x × (test x ≡ true)
found-one P test [] x all is = absurd cc
found-one {A} P test (y ∷ ys) x all is = by_test (λ h. found-one P test ys x all.1 h) (test y) refl is where
  by_test : (find test ys ≡ Some x → P x × (test x ≡ true)) → (t : Bool) → test y ≡ t → cond t (Some y) (find test ys) ≡ Some x → P x × (test x ≡ true)
  by_test later true e h = let same : y ≡ x = cc in subst (λ z. P z × (test z ≡ true)) same (all.0, e)
  by_test later false e h = later h

eq_turned : (a b : ℕ) → (a == b) ≡ (b == a)
eq_turned a b = by_test (a == b) refl (b == a) refl where
  by_test : (s : Bool) → (a == b) ≡ s → (t : Bool) → (b == a) ≡ t → s ≡ t
  by_test true e true f = refl
  by_test false e false f = refl
  by_test true e false f = let there : (b == a) ≡ true = eq-eqb b a (sym (eqb-true a b e)) in absurd cc
  by_test false e true f = let there : (a == b) ≡ true = eq-eqb a b (sym (eqb-true b a f)) in absurd cc

-- ---- finding rows

pub placed-of : (columns : List Column) (rows : List StoredRow) (i : ℤ) → row_of (placed_rows columns rows) i ≡ option_map (placed columns) (stored_of i rows)
placed-of columns rows i = find-map (placed columns) (λ p. int_eq p.row.rowid i) rows

pub placed-at : (columns : List Column) (rows : List StoredRow) (c s : ℕ) → row_at (placed_rows columns rows) c s ≡ option_map (placed columns) (stored_at rows c s)
placed-at columns rows c s =
    find-map (placed columns) (is_at c s) rows
    ∙ ap (λ o. option_map (placed columns) o) (find-alike (λ x. is_at c s (placed columns x)) (lies_at c s) rows
    (each _ rows (λ x. ap₂ (λ (a b : Bool). a && b) (eq_turned x.chunk c) (eq_turned x.slot s))))

pub placed-first : (columns : List Column) (rows : List StoredRow) (c : ℕ) → first_in (placed_rows columns rows) c ≡ option_map (placed columns) (first_stored rows c)
placed-first columns rows c =
    find-map (placed columns) (λ p. p.chunk == c) rows
    ∙ ap (λ o. option_map (placed columns) o) (find-alike (λ (x : StoredRow). x.chunk == c) (λ x. c == x.chunk) rows (each _ rows (λ x. eq_turned x.chunk c)))

pub placed-next : (columns : List Column) (rows : List StoredRow) (after : Option ℤ) → next_row after (placed_rows columns rows) ≡ option_map (placed columns) (next_stored after rows)
placed-next columns rows after = find-map (placed columns) (λ p. is_above after p.row.rowid) rows

again_id : (columns : List Column) (s : StoredRow) → GivesAgain columns s → id_in columns (placed columns s).row.values ≡ s.id
again_id columns s again = ap (λ r. r.id) again

again_partition : (columns : List Column) (s : StoredRow) → GivesAgain columns s → partition_in columns (placed columns s) ≡ s.partition
again_partition columns s again = ap (λ r. r.partition) again

pub placed-with_id : (columns : List Column) (rows : List StoredRow) (id : List ℕ) → AllByRecursion (GivesAgain columns) rows →
    row_with_id columns id (placed_rows columns rows) ≡ option_map (placed columns) (stored_with_id id rows)
placed-with_id columns rows id again =
    find-map (placed columns) (λ p. has_text id (id_in columns p.row.values)) rows
    ∙ ap (λ o. option_map (placed columns) o) (find-alike (λ x. has_text id (id_in columns (placed columns x).row.values)) (λ x. has_text id x.id) rows
    (weaken (GivesAgain columns) (λ x. has_text id (id_in columns (placed columns x).row.values) ≡ has_text id x.id) rows (λ x same. ap (has_text id) (again_id columns x same)) again))

-- ---- the rowids and the partition values of what is found

pub same_rowid : (columns : List Column) (o : Option StoredRow) → option_map rowid_of o ≡ option_map rowid_in (option_map (placed columns) o)
same_rowid columns None = refl
same_rowid columns (Some s) = refl

pub same_partition : (columns : List Column) (test : StoredRow → Bool) (rows : List StoredRow) → AllByRecursion (GivesAgain columns) rows →
    option_map (λ r. r.partition) (find test rows) ≡ option_map (partition_in columns) (option_map (placed columns) (find test rows))
same_partition columns test rows again = by_found (find test rows) refl where
  by_found : (o : Option StoredRow) → find test rows ≡ o → option_map (λ (r : StoredRow). r.partition) o ≡ option_map (partition_in columns) (option_map (placed columns) o)
  by_found None e = refl
  by_found (Some s) e = ap Some (sym (again_partition columns s (found-one (GivesAgain columns) test rows s again e).0))

-- ---- one row more or less

pub placed-with : (columns : List Column) (new : StoredRow) (rows : List StoredRow) → placed_rows columns (with_row new rows) ≡ with_placed (placed columns new) (placed_rows columns rows)
placed-with columns new [] = refl
placed-with columns new (x ∷ xs) = by_order (int_lt new.rowid x.rowid) (placed-with columns new xs) where
  by_order : (t : Bool) → placed_rows columns (with_row new xs) ≡ with_placed (placed columns new) (placed_rows columns xs) →
      placed_rows columns (if t then new ∷ x ∷ xs else x ∷ with_row new xs) ≡ (if t then placed columns new ∷ placed columns x ∷ placed_rows columns xs else placed columns x ∷ with_placed (placed columns new) (placed_rows columns xs))
  by_order true rest = refl
  by_order false rest = ap (λ (ps : List PlacedRow). placed columns x ∷ ps) rest

pub placed-without : (columns : List Column) (i : ℤ) (rows : List StoredRow) → placed_rows columns (without i rows) ≡ without_placed i (placed_rows columns rows)
placed-without columns i [] = refl
placed-without columns i (x ∷ xs) = by_key (not (int_eq x.rowid i)) (placed-without columns i xs) where
  by_key : (t : Bool) → placed_rows columns (without i xs) ≡ without_placed i (placed_rows columns xs) →
      placed_rows columns (cond t (x ∷ without i xs) (without i xs)) ≡ cond t (placed columns x ∷ without_placed i (placed_rows columns xs)) (without_placed i (placed_rows columns xs))
  by_key true rest = ap (λ (ps : List PlacedRow). placed columns x ∷ ps) rest
  by_key false rest = rest

pub all-with : (P : StoredRow → Type 0) (new : StoredRow) (rows : List StoredRow) → P new → AllByRecursion P rows → AllByRecursion P (with_row new rows)
all-with P new [] here all = (here, tt)
all-with P new (x ∷ xs) here all = by_order (all-with P new xs here all.1) (int_lt new.rowid x.rowid) where
  by_order : AllByRecursion P (with_row new xs) → (t : Bool) → AllByRecursion P (if t then new ∷ x ∷ xs else x ∷ with_row new xs)
  by_order rest true = (here, all)
  by_order rest false = (all.0, rest)

pub all-without : (P : StoredRow → Type 0) (i : ℤ) (rows : List StoredRow) → AllByRecursion P rows → AllByRecursion P (without i rows)
all-without P i [] all = tt
all-without P i (x ∷ xs) all = by_key (all-without P i xs all.1) (not (int_eq x.rowid i)) where
  by_key : AllByRecursion P (without i xs) → (t : Bool) → AllByRecursion P (cond t (x ∷ without i xs) (without i xs))
  by_key rest true = (all.0, rest)
  by_key rest false = rest
