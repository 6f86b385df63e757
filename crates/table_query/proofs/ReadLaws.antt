-- What stands at the place of a term, and when it is read.
use Rattle.std.proofs.Common.{◌≡◌, ℕ, zero, suc, ◌-◌, ◌≤◌, Bool, true, false, List, [], ◌∷◌, refl, sym, ◌∙◌, ap, arith, Some}
use Rattle.std.specs.Prelude.{not, ◌&&◌, slice_index_or}
use Rattle.std.specs.List.{AllByRecursion}
use Rattle.vec_base.specs.declared.value.Value.{Value}
use Rattle.vec_base.specs.declared.value.Value.TheVariants.{Null}
use Rattle.row_model.specs.Check.{compares_vector, is_match, is_nearest, some_term}
use Rattle.row_model.specs.ColumnNames.{is_count, is_of, place_of}
use Rattle.row_model.specs.Groups.{kind_in}
use Rattle.row_model.specs.Schemas.{is_vector}
use Rattle.row_model.specs.Values.{meets, passes, value_at, column_value as value_of_column}
use Rattle.row_model.specs.declared.row.Row.{Row}
use Rattle.row_model.specs.declared.schema.Column.{Column}
use Rattle.row_model.specs.declared.schema.Kind.{Kind}
use Rattle.row_model.specs.declared.schema.Kind.TheVariants.{IntKey, TextKey, Int8Vector, BitVector, IntPartition, TextPartition, IntMeta, TextMeta, BoolMeta, IntAux, TextAux, BlobAux}
use Rattle.row_model.specs.declared.schema.Place.{Place}
use Rattle.row_model.specs.declared.schema.Place.TheVariants.{Unknown, Rowid, Declared, Count, Distance}
use Rattle.row_model.specs.declared.statement.Constraint.{Constraint}
use Rattle.row_model.specs.declared.statement.Test.{Test}
use Rattle.row_model.specs.declared.statement.Test.TheVariants.{Compare, Member, Match}
use Rattle.row_model.proofs.BoolLaws.{or_right, or_none}
use Rattle.knn_plan.proofs.NumberLaws.{IsColumnAt, column_there}
use Rattle.knn_plan.proofs.TermLaws.{IsTermFor, terms_fit}
use Rattle.knn_plan.specs.Plans.{IsPlanFor, Planned}
use Rattle.table_query.specs.Read.{IsThere}
use Rattle.table_version.specs.Viewed.{ViewedRow, column_value, is_kind_of, is_vector_column, kind_numbered}

-- ---- columns

-- an integer key is the rowid
pub key_shown : (view : ViewedRow) (number : ℕ) (kind : Kind) → kind ≡ IntKey → column_value view 0 ≡ value_of_column number kind view.placed.row
key_shown view number kind is = sym (ap (λ (k : Kind). value_of_column number k view.placed.row) is)

stored : (number : ℕ) (kind : Kind) (row : Row) → (kind ≡ IntKey → ⊥) → value_of_column number kind row ≡ slice_index_or row.values (number - 1) Null
stored number IntKey row other = absurd (other refl)
stored number TextKey row other = refl
stored number (Int8Vector width metric) row other = refl
stored number (BitVector width) row other = refl
stored number IntPartition row other = refl
stored number TextPartition row other = refl
stored number IntMeta row other = refl
stored number TextMeta row other = refl
stored number BoolMeta row other = refl
stored number IntAux row other = refl
stored number TextAux row other = refl
stored number BlobAux row other = refl

pub one_less : (n : ℕ) → n ≡ suc n - 1
one_less n = omega arith

pub column_shown : (view : ViewedRow) (number : ℕ) (kind : Kind) → kind_numbered view.columns number ≡ Some kind → (kind ≡ IntKey → ⊥) → column_value view number ≡ value_of_column number kind view.placed.row
column_shown view zero kind there other = absurd cc
column_shown view (suc place) kind there other = ap (λ n. slice_index_or view.placed.row.values n Null) (one_less place) ∙ sym (stored (suc place) kind view.placed.row other)

pub plain_column : (columns : List Column) (number : ℕ) (kind : Kind) → kind_numbered columns number ≡ Some kind → is_vector kind ≡ false → is_vector_column columns number ≡ false
plain_column columns number kind there other = ap (is_kind_of is_vector) there ∙ other

-- ---- places of names

kind_found : (columns : List Column) (j : ℕ) (kind : Kind) → IsColumnAt columns j kind → kind_in columns j ≡ Some kind
kind_found [] j kind is = (let within = is.within in absurd (omega (arith, within)))
kind_found (column ∷ columns) zero kind is = ap Some (is.kind_is column)
kind_found (column ∷ columns) (suc j) kind is = let within = is.within in kind_found columns j kind (record { within = omega (arith, within); kind_is = is.kind_is })

pub numbered : (columns : List Column) (number : ℕ) (kind : Kind) → 1 ≤ number → kind_in columns (number - 1) ≡ Some kind → kind_numbered columns number ≡ Some kind
numbered columns zero kind low there = absurd (omega (arith, low))
numbered columns (suc place) kind low there = ap (kind_in columns) (one_less place) ∙ there

there_at : (columns : List Column) (name : List ℕ) (place : Place) → place_of columns name ≡ place → IsThere columns place
there_at columns name Unknown is = tt
there_at columns name Rowid is = tt
there_at columns name (Declared number kind) is = let at = column_there columns name number kind is in numbered columns number kind at.0 (kind_found columns (number - 1) kind at.1)
there_at columns name Count is = tt
there_at columns name Distance is = tt

pub place_there : (columns : List Column) (name : List ℕ) (place : Place) → place ≡ place_of columns name → IsThere columns place
place_there columns name place is = there_at columns name place (sym is)

-- ---- terms

all_pass : (test : Test) (value : Value) → is_match test ≡ true → passes test value ≡ true
all_pass (Compare op constant) value is = absurd cc
all_pass (Member constants) value is = absurd cc
all_pass (Match query) value is = refl

-- a MATCH leaves no row out
pub match_met : (columns : List Column) (row : Row) (term : Constraint) → is_match term.test ≡ true → meets columns row term ≡ true
match_met columns row term is =
    or_right (is_count (place_of columns term.column)) (passes term.test (value_at (place_of columns term.column) row)) (all_pass term.test (value_at (place_of columns term.column) row) is)

left_of : (a b : Bool) → (a && not b) ≡ false → b ≡ false → a ≡ false
left_of true true both none = absurd cc
left_of true false both none = absurd cc
left_of false b both none = refl

-- and any other test is not on vectors
pub no_vector : (place : Place) (test : Test) → compares_vector place test ≡ false → is_match test ≡ false → is_of is_vector place ≡ false
no_vector place test none plain = left_of (is_of is_vector place) (is_match test) none plain

each_plain : (columns : List Column) (nearest : Bool) (terms : List Constraint) → AllByRecursion (IsTermFor columns nearest) terms → some_term columns compares_vector terms ≡ false
each_plain columns nearest [] all = refl
each_plain columns nearest (term ∷ terms) all =
    or_none (compares_vector (place_of columns term.column) term.test) (some_term columns compares_vector terms) all.0.vector (each_plain columns nearest terms all.1)

pub no_vectors : (columns : List Column) (plan : Planned) → IsPlanFor columns plan → some_term columns compares_vector plan.select.where_terms ≡ false
no_vectors columns plan is = each_plain columns (is_nearest plan.select.where_terms) plan.select.where_terms (terms_fit columns plan.select is.checked)
