-- Rows by rowid, by place and by chunk.
use Rattle.std.proofs.Common.{◌≡◌, ℕ, suc, ◌<◌, ℤ, List, [], ◌∷◌, length, get_or, map, cond, Bool, true, false, ◌&&◌, ◌==◌, refl, sym, ap, ◌∙◌, subst, arith}
use Rattle.std.specs.declared.option.Option.TheVariants.{Some}
use Rattle.std.specs.List.{list_all, AllByRecursion, AllPairs, find}
use Rattle.std.specs.Ordering.{int_eq}
use Rattle.std.proofs.lemmas.Bool.{and_parts, eqb-true, eq-eqb}
use Rattle.std.proofs.lemmas.Bool.Decides.{Decides-int_eq}
use Rattle.row_model.specs.declared.schema.Column.{Column}
use Rattle.shadow_records.specs.PlacedTables.{PlacedRow, is_at, row_at, row_of, first_in, partition_of, AreApart, AreAlike}

pub some_is : {X : Type 0} {x y : X} → Some x ≡ Some y → x ≡ y
some_is e = cc

-- ---- what is found in a list

pub found_passes : {X : Type 0} (test : X → Bool) (xs : List X) (x : X) → find test xs ≡ Some x → test x ≡ true
found_passes test [] x e = absurd cc
found_passes test (y ∷ xs) x e = at (found_passes test xs x) (test y) refl e where
  at : (find test xs ≡ Some x → test x ≡ true) → (b : Bool) → test y ≡ b → cond b (Some y) (find test xs) ≡ Some x → test x ≡ true
  at rest true g f = ap test (sym (some_is f)) ∙ g
  at rest false g f = rest f

pub found_all : {X : Type 0} (test other : X → Bool) (xs : List X) (x : X) → list_all other xs ≡ true → find test xs ≡ Some x → other x ≡ true
found_all test other [] x all e = absurd cc
found_all test other (y ∷ xs) x all e = at (found_all test other xs x) (test y) e (and_parts (other y) (list_all other xs) all) where
  at : (list_all other xs ≡ true → find test xs ≡ Some x → other x ≡ true) → (b : Bool) → cond b (Some y) (find test xs) ≡ Some x → (other y ≡ true) × (list_all other xs ≡ true) → other x ≡ true
  at rest true f h = ap other (sym (some_is f)) ∙ h.0
  at rest false f h = rest h.1 f

pub found_each : {X : Type 0} (P : X → Type 0) (test : X → Bool) (xs : List X) (x : X) → AllByRecursion P xs → find test xs ≡ Some x → P x
found_each P test [] x all e = absurd cc
found_each P test (y ∷ xs) x all e = at (found_each P test xs x) (test y) e where
  at : (AllByRecursion P xs → find test xs ≡ Some x → P x) → (b : Bool) → cond b (Some y) (find test xs) ≡ Some x → P x
  at rest true f = subst P (some_is f) all.0
  at rest false f = rest all.1 f

-- where it stands
pub record Stands {X : Type 0} (xs : List X) (x : X) : Type 0 where
  pub index : ℕ
  pub within : index < length xs
  pub is : (d : X) → get_or xs index d ≡ x

pub found_stands : {X : Type 0} (test : X → Bool) (xs : List X) (x : X) → find test xs ≡ Some x → Stands xs x
found_stands test [] x e = absurd cc
found_stands {X} test (y ∷ xs) x e = at (found_stands test xs x) (test y) e where
  at : (find test xs ≡ Some x → Stands xs x) → (b : Bool) → cond b (Some y) (find test xs) ≡ Some x → Stands (y ∷ xs) x
  at rest true f = record { index = 0; within = omega arith; is = λ d. some_is f }
  at rest false f = (let there = rest f in let lt = there.within in record { index = suc there.index; within = omega (arith, lt); is = λ d. there.is d })

-- ---- pairs

-- the first one with each that stands behind it
pub pairs_first : {X : Type 0} (R : X → X → Type 0) (x : X) (xs : List X) (y : X) → AllPairs R (x ∷ xs) → Stands xs y → R x y
pairs_first R x xs y all there = let lt = there.within in subst (R x) (there.is x) (all 0 (suc there.index) x (omega arith) (omega (arith, lt)))

pub pairs_rest : {X : Type 0} (R : X → X → Type 0) (x : X) (xs : List X) → AllPairs R (x ∷ xs) → AllPairs R xs
pairs_rest R x xs all = λ i j d lt le. all (suc i) (suc j) d (omega (arith, lt)) (omega (arith, le))

-- ---- rows

pub all_rows : {A B : Type 0} (f : A → B) (test : B → Bool) (xs : List A) → list_all test (map f xs) ≡ list_all (λ x. test (f x)) xs
all_rows f test [] = refl
all_rows f test (x ∷ xs) = ap (λ b. test (f x) && b) (all_rows f test xs)

pub each_row : {A B : Type 0} (f : A → B) (P : B → Type 0) (xs : List A) → AllByRecursion P (map f xs) → AllByRecursion (λ x. P (f x)) xs
each_row f P [] all = tt
each_row f P (x ∷ xs) all = (all.0, each_row f P xs all.1)

pub rowid_is : (rows : List PlacedRow) (rowid : ℤ) (p : PlacedRow) → row_of rows rowid ≡ Some p → p.row.rowid ≡ rowid
rowid_is rows rowid p e = (Decides-int_eq p.row.rowid rowid).0 (found_passes (λ (placed : PlacedRow). int_eq placed.row.rowid rowid) rows p e)

pub at_own_place : (p : PlacedRow) → is_at p.chunk p.slot p ≡ true
at_own_place p = rw (eq-eqb p.chunk p.chunk refl, eq-eqb p.slot p.slot refl) refl

-- a row is the row at its place
pub found_at_place : (rows : List PlacedRow) (rowid : ℤ) (p : PlacedRow) → AllPairs AreApart rows → row_of rows rowid ≡ Some p → row_at rows p.chunk p.slot ≡ Some p
found_at_place [] rowid p apart e = absurd cc
found_at_place (q ∷ rows) rowid p apart e = at (found_at_place rows rowid p) (int_eq q.row.rowid rowid) e where
  at : (AllPairs AreApart rows → row_of rows rowid ≡ Some p → row_at rows p.chunk p.slot ≡ Some p) → (b : Bool) → cond b (Some q) (row_of rows rowid) ≡ Some p →
      cond (is_at p.chunk p.slot q) (Some q) (row_at rows p.chunk p.slot) ≡ Some p
  at rest true f =
      let same = some_is f in
      ap (λ (x : PlacedRow). cond (is_at p.chunk p.slot x) (Some q) (row_at rows p.chunk p.slot)) same ∙ ap (λ b. cond b (Some q) (row_at rows p.chunk p.slot)) (at_own_place p) ∙ ap Some same
  at rest false f = one (is_at p.chunk p.slot q) refl (rest (pairs_rest AreApart q rows apart) f) where
    one : (b : Bool) → is_at p.chunk p.slot q ≡ b → row_at rows p.chunk p.slot ≡ Some p → cond b (Some q) (row_at rows p.chunk p.slot) ≡ Some p
    one true g there =
        let parts = and_parts (q.chunk == p.chunk) (q.slot == p.slot) g in
        let other = pairs_first AreApart q rows p apart (found_stands (λ (placed : PlacedRow). int_eq placed.row.rowid rowid) rows p f) in
        absurd (other (eqb-true q.chunk p.chunk parts.0) (eqb-true q.slot p.slot parts.1))
    one false g there = there

-- The first row of a row's chunk, and its partition values, which are the row's.
pub record FirstOf (columns : List Column) (rows : List PlacedRow) (p : PlacedRow) : Type 0 where
  pub row : PlacedRow
  pub is : first_in rows p.chunk ≡ Some row
  pub alike : partition_of columns row.row.values ≡ partition_of columns p.row.values

pub first_of : (columns : List Column) (rows : List PlacedRow) (rowid : ℤ) (p : PlacedRow) → AllPairs (AreAlike columns) rows → row_of rows rowid ≡ Some p → FirstOf columns rows p
first_of columns [] rowid p alike e = absurd cc
first_of columns (q ∷ rows) rowid p alike e = at (first_of columns rows rowid p) (int_eq q.row.rowid rowid) e where
  at : (AllPairs (AreAlike columns) rows → row_of rows rowid ≡ Some p → FirstOf columns rows p) → (b : Bool) → cond b (Some q) (row_of rows rowid) ≡ Some p → FirstOf columns (q ∷ rows) p
  at rest true f =
      let same = some_is f in
      record {
        row = q;
        is = ap (λ b. cond b (Some q) (first_in rows p.chunk)) (eq-eqb q.chunk p.chunk (ap (λ (x : PlacedRow). x.chunk) same));
        alike = ap (λ (x : PlacedRow). partition_of columns x.row.values) same;
      }
  at rest false f = one (q.chunk == p.chunk) refl (rest (pairs_rest (AreAlike columns) q rows alike) f) where
    one : (b : Bool) → (q.chunk == p.chunk) ≡ b → FirstOf columns rows p → FirstOf columns (q ∷ rows) p
    one true g later =
        let here = pairs_first (AreAlike columns) q rows p alike (found_stands (λ (placed : PlacedRow). int_eq placed.row.rowid rowid) rows p f) in
        record { row = q; is = ap (λ b. cond b (Some q) (first_in rows p.chunk)) g; alike = here (eqb-true q.chunk p.chunk g) }
    one false g later =
        record { row = later.row; is = ap (λ b. cond b (Some q) (first_in rows p.chunk)) g ∙ later.is; alike = later.alike }
