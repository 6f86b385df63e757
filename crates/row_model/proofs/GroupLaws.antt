-- How many columns of a sort stand before a place, step by step.
use Rattle.std.proofs.Common.{◌≡◌, ℕ, zero, suc, ◌+◌, ◌≤◌, Bool, true, false, cond, List, [], ◌∷◌, ◌∙◌, refl, ap, arith}
use Rattle.std.specs.Prelude.{◌-◌}
use Rattle.row_model.specs.Groups.{before_in}
use Rattle.row_model.specs.declared.schema.Column.{Column}
use Rattle.row_model.specs.declared.schema.Kind.{Kind}

pub none_before : (sort : Kind → Bool) (columns : List Column) → before_in sort columns 0 ≡ 0
none_before sort [] = refl
none_before sort (column ∷ columns) = refl

less_one : (n : ℕ) → n ≡ suc n - 1
less_one n = omega arith

pub one_before : (sort : Kind → Bool) (column : Column) (columns : List Column) (place : ℕ) → 1 ≤ place → sort column.kind ≡ true →
    before_in sort (column ∷ columns) place ≡ before_in sort columns (place - 1) + 1
one_before sort column columns zero low is = absurd (omega (arith, low))
one_before sort column columns (suc place) low is =
    ap (λ b. cond b (suc (before_in sort columns place)) (before_in sort columns place)) is
    ∙ one_more (before_in sort columns place)
    ∙ ap (λ n. before_in sort columns n + 1) (less_one place)
  where
    one_more : (n : ℕ) → suc n ≡ n + 1
    one_more n = omega arith

pub other_before : (sort : Kind → Bool) (column : Column) (columns : List Column) (place : ℕ) → 1 ≤ place → sort column.kind ≡ false →
    before_in sort (column ∷ columns) place ≡ before_in sort columns (place - 1)
other_before sort column columns zero low is = absurd (omega (arith, low))
other_before sort column columns (suc place) low is =
    ap (λ b. cond b (suc (before_in sort columns place)) (before_in sort columns place)) is ∙ ap (before_in sort columns) (less_one place)
