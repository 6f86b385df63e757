-- A SELECT has a target exactly where one of its terms is a MATCH.
use Rattle.std.proofs.Common.{◌≡◌, ℕ, ◌+◌, ◌<◌, Bool, true, false, cond, if◌then◌else◌, List, [], ◌∷◌, refl, sym, ◌∙◌, arith, Option, None, Some, inl, inr}
use Rattle.std.proofs.lemmas.Bool.{cases_Bool}
use Rattle.std.proofs.lemmas.Bool.Decides.{nat_tests}
use Rattle.std.proofs.lemmas.List.Sums.{sum_by-cons}
use Rattle.std.specs.List.{list_any}
use Rattle.row_model.specs.declared.request.Shape.TheVariants.{Point, Scan, Nearest}
use Rattle.row_model.specs.declared.schema.Column.{Column}
use Rattle.row_model.specs.declared.schema.Place.{Place}
use Rattle.row_model.specs.declared.statement.Constraint.{Constraint}
use Rattle.row_model.specs.declared.statement.Test.{Test}
use Rattle.row_model.specs.declared.statement.Test.TheVariants.{Compare, Member, Match}
use Rattle.row_model.specs.Answer.{Target, or_later, target_in, target_of, is_point_term, shape_by}
use Rattle.row_model.specs.Check.{is_match, match_count, is_nearest}
use Rattle.row_model.specs.ColumnNames.{place_of}

none_by_test : (place : Place) (test : Test) (rest : Option Target) (count : ℕ) → cond (is_match test) 1 0 + count ≡ 0 →
    (count ≡ 0 → rest ≡ None) → or_later (target_in place test) rest ≡ None
none_by_test place (Compare op value) rest count h later = later (omega arith)
none_by_test place (Member values) rest count h later = later (omega arith)
none_by_test place (Match query) rest count h later = absurd (omega arith)

-- without a MATCH there is no target
no_target : (columns : List Column) (terms : List Constraint) → match_count terms ≡ 0 → target_of columns terms ≡ None
no_target columns [] h = refl
no_target columns (term ∷ terms) h =
    none_by_test (place_of columns term.column) term.test (target_of columns terms) (match_count terms)
    (sym (sum_by-cons (λ (t : Constraint). cond (is_match t.test) 1 0) term terms) ∙ h) (no_target columns terms)

some_by_test : (place : Place) (test : Test) (rest : Option Target) (count : ℕ) (columns : List Column) (terms : List Constraint) → 0 < cond (is_match test) 1 0 + count →
    (0 < count → shape_by rest columns terms ≡ Nearest) → shape_by (or_later (target_in place test) rest) columns terms ≡ Nearest
some_by_test place (Compare op value) rest count columns terms h later = later (omega arith)
some_by_test place (Member values) rest count columns terms h later = later (omega arith)
some_by_test place (Match query) rest count columns terms h later = refl

-- with a MATCH there is a target
some_target : (columns all : List Column) (terms whole : List Constraint) → 0 < match_count terms → shape_by (target_of columns terms) all whole ≡ Nearest
some_target columns all [] whole h = absurd (omega arith)
some_target columns all (term ∷ terms) whole h =
    let count = sum_by-cons (λ (t : Constraint). cond (is_match t.test) 1 0) term terms in
    some_by_test (place_of columns term.column) term.test (target_of columns terms) (match_count terms) all whole (omega (arith, count, h)) (some_target columns all terms whole)

pub nearest_shape : (columns : List Column) (terms : List Constraint) → is_nearest terms ≡ true → shape_by (target_of columns terms) columns terms ≡ Nearest
nearest_shape columns terms h =
    let some : 0 < match_count terms = grind (arith, nat_tests) in
    some_target columns columns terms terms some

no_nearest : (columns : List Column) (terms : List Constraint) → is_nearest terms ≡ false → target_of columns terms ≡ None
no_nearest columns terms h =
    let none : match_count terms ≡ 0 = grind (arith, nat_tests) in
    no_target columns terms none

-- without a MATCH the terms on the rowid and the key decide
pub plain_shape : (columns : List Column) (terms : List Constraint) (point : Bool) → is_nearest terms ≡ false → list_any (is_point_term columns) terms ≡ point →
    shape_by (target_of columns terms) columns terms ≡ (if point then Point else Scan)
plain_shape columns terms point h p = rw (no_nearest columns terms h, p) refl

-- a target comes of a MATCH
pub nearest_with_target : (columns : List Column) (terms : List Constraint) (target : Target) → target_of columns terms ≡ Some target → is_nearest terms ≡ true
nearest_with_target columns terms target found =
    elim (cases_Bool (is_nearest terms)) [
      | inl nearest ↦ nearest
      | inr plain ↦ absurd (some≢none target (sym found ∙ no_nearest columns terms plain))
    ]
  where
    some≢none : (target : Target) → Some target ≡ None → ⊥
    some≢none target same = cc
