-- Columns by how many of their role stand before them.
use Rattle.std.proofs.Common.{◌≡◌, ℕ, zero, suc, ◌+◌, ◌<◌, ◌≤◌, ◌^◌, ℤ, pos, negsuc, List, [], ◌∷◌, length, get_or, int_le, cond, Bool, true, false, refl, sym, ◌∙◌, subst, arith}
use Rattle.std.specs.declared.option.Option.TheVariants.{Some, None}
use Rattle.std.proofs.lemmas.Bool.{and_parts, false≢true}
use Rattle.vec_base.specs.declared.value.Value.{Value}
use Rattle.vec_base.specs.declared.value.Value.TheVariants.{Null}
use Rattle.row_model.specs.Schemas.{has_some}
use Rattle.row_model.specs.Valid.{is_valid_value, are_valid_values}
use Rattle.row_model.specs.declared.schema.Column.{Column}
use Rattle.row_model.specs.declared.schema.Kind.{Kind}
use Rattle.shadow_records.specs.PlacedTables.{PlacedTable, IsPlaced}
use Rattle.shadow_records.specs.Records.{ColumnAt, nth_column, column_at}
use Rattle.vec0_columns.proofs.Written.{neither}
use Rattle.std.proofs.lemmas.Int.{ints}
use Rattle.row_model.specs.Groups.{kind_in}
use Rattle.row_model.proofs.SchemaLaws.{narrow_columns}

pub columns_few : (table : PlacedTable) → IsPlaced table → length table.schema.columns < 2 ^ 8
columns_few table placed = let few = narrow_columns table.schema placed.valid.schema in omega (arith, few)

-- What is known of a column that was found.
pub record Standing (role : Kind → Bool) (from : ℕ) (columns : List Column) (c : ColumnAt) : Type 0 where
  pub index : ℕ
  pub place : c.place ≡ from + index
  pub within : index < length columns
  pub there : kind_in columns index ≡ Some c.kind
  pub kind : role c.kind ≡ true
  pub valid : (rowid : ℤ) (values : List Value) → are_valid_values columns rowid values ≡ true → is_valid_value c.kind rowid (get_or values index Null) ≡ true
  pub passes : (test : Kind → Bool) → has_some test columns ≡ false → test c.kind ≡ false

abbrev column_here : ℕ → Kind → ColumnAt
column_here place kind = record { place = place; kind = kind }

stands_here : (role : Kind → Bool) (from : ℕ) (d : Column) (columns : List Column) → role d.kind ≡ true → Standing role from (d ∷ columns) (column_here from d.kind)
stands_here role from d columns is = record { index = 0; place = omega arith; within = omega arith; there = refl; kind = is; valid = valid; passes = λ test none. (neither (test d.kind) (has_some test columns) none).0 } where
  valid : (rowid : ℤ) (values : List Value) → are_valid_values (d ∷ columns) rowid values ≡ true → is_valid_value d.kind rowid (get_or values 0 Null) ≡ true
  valid rowid [] e = absurd (false≢true e)
  valid rowid (x ∷ values) e = (and_parts (is_valid_value d.kind rowid x) (are_valid_values columns rowid values) e).0

stands_later : (role : Kind → Bool) (from : ℕ) (d : Column) (columns : List Column) (c : ColumnAt) → Standing role (suc from) columns c → Standing role from (d ∷ columns) c
stands_later role from d columns c later = record {
  index = suc later.index;
  place = later.place ∙ omega arith;
  within = (let lt = later.within in omega (arith, lt));
  there = later.there;
  kind = later.kind;
  valid = valid;
  passes = λ test none. later.passes test (neither (test d.kind) (has_some test columns) none).1;
} where
  valid : (rowid : ℤ) (values : List Value) → are_valid_values (d ∷ columns) rowid values ≡ true → is_valid_value c.kind rowid (get_or values (suc later.index) Null) ≡ true
  valid rowid [] e = absurd (false≢true e)
  valid rowid (x ∷ values) e = later.valid rowid values (and_parts (is_valid_value d.kind rowid x) (are_valid_values columns rowid values) e).1

found_is : {c d : ColumnAt} → Some c ≡ Some d → c ≡ d
found_is e = cc

pub column_stands : (role : Kind → Bool) (from : ℕ) (columns : List Column) (before : ℕ) (c : ColumnAt) → nth_column role from columns before ≡ Some c → Standing role from columns c
column_stands role from [] before c e = absurd cc
column_stands role from (d ∷ columns) zero c e = by (role d.kind) refl (column_stands role (suc from) columns zero c) e where
  by : (b : Bool) → role d.kind ≡ b → (nth_column role (suc from) columns zero ≡ Some c → Standing role (suc from) columns c) →
      cond b (Some (column_here from d.kind)) (nth_column role (suc from) columns zero) ≡ Some c → Standing role from (d ∷ columns) c
  by true is later f = subst (Standing role from (d ∷ columns)) (found_is f) (stands_here role from d columns is)
  by false is later f = stands_later role from d columns c (later f)
column_stands role from (d ∷ columns) (suc before) c e = by (role d.kind) (column_stands role (suc from) columns before c) (column_stands role (suc from) columns (suc before) c) e where
  by : (b : Bool) → (nth_column role (suc from) columns before ≡ Some c → Standing role (suc from) columns c) → (nth_column role (suc from) columns (suc before) ≡ Some c → Standing role (suc from) columns c) →
      cond b (nth_column role (suc from) columns before) (nth_column role (suc from) columns (suc before)) ≡ Some c → Standing role from (d ∷ columns) c
  by true one more f = stands_later role from d columns c (one f)
  by false one more f = stands_later role from d columns c (more f)

far : (before : ℕ) → (int_le (pos 0) (pos before) ≡ true → int_le (pos before) (pos 255) ≡ true → ⊥) → 255 < before
far before past = grind (arith, ints)

-- there is none with as many before it as there are columns
pub nth_past : (has : Kind → Bool) (from : ℕ) (columns : List Column) (n : ℕ) → length columns ≤ n → nth_column has from columns n ≡ None
nth_past has from [] n few = refl
nth_past has from (column ∷ columns) zero few = absurd (omega arith)
nth_past has from (column ∷ columns) (suc n) few = by (nth_past has (suc from) columns n (omega arith)) (nth_past has (suc from) columns (suc n) (omega arith)) (has column.kind) where
  by : nth_column has (suc from) columns n ≡ None → nth_column has (suc from) columns (suc n) ≡ None →
      (b : Bool) → cond b (nth_column has (suc from) columns n) (nth_column has (suc from) columns (suc n)) ≡ None
  by less same true = less
  by less same false = same

-- a number that no byte can hold is that of no column
pub column_past : (has : Kind → Bool) (table : PlacedTable) (before : ℤ) → IsPlaced table → (int_le (pos 0) before ≡ true → int_le before (pos 255) ≡ true → ⊥) → None ≡ column_at has table before
column_past has table (pos before) placed past =
    let few = columns_few table placed in
    let far : 255 < before = far before past in
    sym (nth_past has 0 table.schema.columns before (omega (arith, few, far)))
column_past has table (negsuc n) placed past = refl
