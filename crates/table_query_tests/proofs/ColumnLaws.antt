-- The columns of the tests make a valid schema, and the values of the tests fit them.
use Rattle.std.proofs.Common.{◌≡◌, ◌≤◌, ℕ, ℤ, List, [], ◌∷◌, true, codes, length, refl, ap, ◌∙◌, None, arith, ap₂}
use Rattle.std.specs.Prelude.{◌&&◌}
use Rattle.std.proofs.lemmas.Bool.{le-leb}
use Rattle.vec_base.specs.declared.limits.TheConstants.{MOST_VALUE_BYTES}
use Rattle.std.specs.List.{list_all}
use Rattle.vec_base.specs.Words.{is_name, is_reserved}
use Rattle.vec_base.specs.declared.value.Value.{Value}
use Rattle.vec_base.specs.declared.value.Value.TheVariants.{Int, Int8, Null, Text}
use Rattle.row_model.specs.Schemas.{IsValidSchema, schema_fault}
use Rattle.row_model.specs.declared.schema.Column.{Column}
use Rattle.row_model.specs.declared.schema.Schema.{Schema}
use Rattle.table_query_tests.specs.FourColumns.{four_columns}
use Rattle.table_version.specs.Inserting.{are_fitting}

abbrev schema_of : List Column → ℕ → Schema
schema_of columns size = record { columns = columns; chunk_size = size }

pub valid_four : (schema : Schema) → schema.columns ≡ four_columns → schema.chunk_size ≡ 8 → IsValidSchema schema
unfolding is_reserved
valid_four schema columns size = record {
  rules = ap (λ cs. schema_fault (schema_of cs schema.chunk_size)) columns ∙ ap (λ n. schema_fault (schema_of four_columns n)) size ∙ refl;
  names = ap (list_all (λ column. is_name column.name)) columns ∙ refl;
}

pub name_v : is_name (codes "v") ≡ true
unfolding is_reserved
name_v = refl

pub values_fit : (columns : List Column) (values : List Value) (id : List ℕ) (first : ℕ) (number : ℤ) → columns ≡ four_columns → values ≡ Text id ∷ Int8 (first ∷ 0 ∷ []) ∷ Int number ∷ Null ∷ [] → length id ≤ 8 →
    are_fitting columns values ≡ true
values_fit columns values id first number is are short =
    let low : length id ≤ MOST_VALUE_BYTES = omega (arith, short) in
    ap₂ are_fitting is are ∙ ap (λ b. b && true) (le-leb (length id) MOST_VALUE_BYTES low)
