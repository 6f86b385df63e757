-- Columns of a role, and what valid rows hold in them.
use Rattle.std.proofs.Common.{◌≡◌, ℕ, zero, suc, ◌+◌, ℤ, List, [], ◌∷◌, ◌++◌, length, get_or, cond, Bool, true, false, refl, ap, ◌∙◌, arith}
use Rattle.std.specs.declared.option.Option.TheVariants.{Some}
use Rattle.std.proofs.lemmas.Bool.{and_parts, false≢true}
use Rattle.std.proofs.lemmas.List.Sums.{sum_by-cons}
use Rattle.vec_base.specs.declared.value.Value.{Value}
use Rattle.vec_base.specs.declared.value.Value.TheVariants.{Null}
use Rattle.row_model.specs.declared.schema.Column.{Column}
use Rattle.row_model.specs.declared.schema.Kind.{Kind}
use Rattle.row_model.specs.Schemas.{count_of}
use Rattle.row_model.specs.Valid.{is_valid_value, are_valid_values}
use Rattle.shadow_records.specs.Records.{ColumnAt, nth_column}

pub count_first : (sort : Kind → Bool) (column : Column) (columns : List Column) → count_of sort (column ∷ columns) ≡ cond (sort column.kind) 1 0 + count_of sort columns
count_first sort column columns = sum_by-cons (λ (c : Column). cond (sort c.kind) 1 0) column columns

pub count_in : (sort : Kind → Bool) (column : Column) (columns : List Column) → sort column.kind ≡ true → count_of sort (column ∷ columns) ≡ suc (count_of sort columns)
count_in sort column columns e = count_first sort column columns ∙ ap (λ b. cond b 1 0 + count_of sort columns) e ∙ omega arith

pub count_out : (sort : Kind → Bool) (column : Column) (columns : List Column) → sort column.kind ≡ false → count_of sort (column ∷ columns) ≡ count_of sort columns
count_out sort column columns e = count_first sort column columns ∙ ap (λ b. cond b 1 0 + count_of sort columns) e ∙ omega arith

-- one column more behind the others
pub count_last : (sort : Kind → Bool) (columns : List Column) (column : Column) → count_of sort (columns ++ column ∷ []) ≡ count_of sort columns + cond (sort column.kind) 1 0
count_last sort [] column = count_first sort column [] ∙ omega arith
count_last sort (c ∷ columns) column =
    omega (arith, count_first sort c (columns ++ column ∷ []), count_first sort c columns, count_last sort columns column)

abbrev column_here : ℕ → Kind → ColumnAt
column_here place kind = record { place = place; kind = kind }

nth_in : (sort : Kind → Bool) (from : ℕ) (column : Column) (columns : List Column) (before : ℕ) → sort column.kind ≡ true →
    nth_column sort from (column ∷ columns) (suc before) ≡ nth_column sort (suc from) columns before
nth_in sort from column columns before e = ap (λ b. cond b (nth_column sort (suc from) columns before) (nth_column sort (suc from) columns (suc before))) e

nth_out : (sort : Kind → Bool) (from : ℕ) (column : Column) (columns : List Column) (before : ℕ) → sort column.kind ≡ false →
    nth_column sort from (column ∷ columns) before ≡ nth_column sort (suc from) columns before
nth_out sort from column columns zero e = ap (λ b. cond b (Some (column_here from column.kind)) (nth_column sort (suc from) columns zero)) e
nth_out sort from column columns (suc before) e = ap (λ b. cond b (nth_column sort (suc from) columns before) (nth_column sort (suc from) columns (suc before))) e

-- a column is found by how many of its role stand before it
pub column_there : (sort : Kind → Bool) (from k : ℕ) (before after : List Column) (column : Column) → sort column.kind ≡ true → k ≡ from + length before →
    nth_column sort from (before ++ column ∷ after) (count_of sort before) ≡ Some (record { place = k; kind = column.kind })
column_there sort from k [] after column is e =
    let same : from ≡ k = omega arith in
    ap (λ b. cond b (Some (column_here from column.kind)) (nth_column sort (suc from) after zero)) is ∙ ap (λ k. Some (column_here k column.kind)) same
column_there sort from k (b ∷ before) after column is e = by (sort b.kind) refl (column_there sort (suc from) k before after column is (omega arith)) where
  by : (t : Bool) → sort b.kind ≡ t → nth_column sort (suc from) (before ++ column ∷ after) (count_of sort before) ≡ Some (column_here k column.kind) →
      nth_column sort from (b ∷ (before ++ column ∷ after)) (count_of sort (b ∷ before)) ≡ Some (column_here k column.kind)
  by true f rest = ap (nth_column sort from (b ∷ (before ++ column ∷ after))) (count_in sort b before f) ∙ nth_in sort from b (before ++ column ∷ after) (count_of sort before) f ∙ rest
  by false f rest = ap (nth_column sort from (b ∷ (before ++ column ∷ after))) (count_out sort b before f) ∙ nth_out sort from b (before ++ column ∷ after) (count_of sort before) f ∙ rest

pub valid_there : (before after : List Column) (column : Column) (rowid : ℤ) (values : List Value) → are_valid_values (before ++ column ∷ after) rowid values ≡ true →
    is_valid_value column.kind rowid (get_or values (length before) Null) ≡ true
valid_there [] after column rowid [] e = absurd (false≢true e)
valid_there [] after column rowid (x ∷ values) e = (and_parts _ _ e).0
valid_there (b ∷ before) after column rowid [] e = absurd (false≢true e)
valid_there (b ∷ before) after column rowid (x ∷ values) e = valid_there before after column rowid values (and_parts _ _ e).1

pub valid_length : (columns : List Column) (rowid : ℤ) (values : List Value) → are_valid_values columns rowid values ≡ true → length values ≡ length columns
valid_length [] rowid [] e = refl
valid_length [] rowid (x ∷ values) e = absurd (false≢true e)
valid_length (c ∷ columns) rowid [] e = absurd (false≢true e)
valid_length (c ∷ columns) rowid (x ∷ values) e = ap suc (valid_length columns rowid values (and_parts _ _ e).1)
