-- The columns of the tests make valid schemas, and the name of the tests is one.
use Rattle.std.proofs.Common.{◌≡◌, ◌≤◌, ℕ, pos, List, [], ◌∷◌, true, codes, length, refl, ap, ap₂, arith, ◌∙◌}
use Rattle.std.specs.Prelude.{◌&&◌}
use Rattle.std.specs.List.{list_all}
use Rattle.std.proofs.lemmas.Bool.{le-leb}
use Rattle.vec_base.specs.Words.{is_name, is_reserved}
use Rattle.vec_base.specs.declared.limits.TheConstants.{MOST_VALUE_BYTES}
use Rattle.vec_base.specs.declared.value.Value.{Value}
use Rattle.vec_base.specs.declared.value.Value.TheVariants.{Int, Int8, Text}
use Rattle.row_model.specs.Schemas.{IsValidSchema, schema_fault}
use Rattle.row_model.specs.declared.schema.Column.{Column}
use Rattle.row_model.specs.declared.schema.Kind.{Kind}
use Rattle.row_model.specs.declared.schema.Schema.{Schema}
use Rattle.table_version.specs.Inserting.{are_fitting}
use Rattle.kept_tests.specs.Columns.{one_column, two_columns, sample_columns}

abbrev schema_of : List Column → ℕ → Schema
schema_of columns size = record { columns = columns; chunk_size = size }

pub valid_one : (schema : Schema) → schema.columns ≡ one_column → schema.chunk_size ≡ 1024 → IsValidSchema schema
unfolding is_reserved
valid_one schema columns size = record {
  rules = ap (λ cs. schema_fault (schema_of cs schema.chunk_size)) columns ∙ ap (λ n. schema_fault (schema_of one_column n)) size ∙ refl;
  names = ap (list_all (λ column. is_name column.name)) columns ∙ refl;
}

pub valid_two : (schema : Schema) → schema.columns ≡ two_columns → schema.chunk_size ≡ 8 → IsValidSchema schema
unfolding is_reserved
valid_two schema columns size = record {
  rules = ap (λ cs. schema_fault (schema_of cs schema.chunk_size)) columns ∙ ap (λ n. schema_fault (schema_of two_columns n)) size ∙ refl;
  names = ap (list_all (λ column. is_name column.name)) columns ∙ refl;
}

pub valid_sample : (schema : Schema) → schema.columns ≡ sample_columns → schema.chunk_size ≡ 8 → IsValidSchema schema
unfolding is_reserved
valid_sample schema columns size = record {
  rules = ap (λ cs. schema_fault (schema_of cs schema.chunk_size)) columns ∙ ap (λ n. schema_fault (schema_of sample_columns n)) size ∙ refl;
  names = ap (list_all (λ column. is_name column.name)) columns ∙ refl;
}

pub name_v : is_name (codes "v") ≡ true
unfolding is_reserved
name_v = refl

pub column_is : (column : Column) (name : List ℕ) (kind : Kind) → column.name ≡ name → column.kind ≡ kind → column ≡ record { name = name; kind = kind }
column_is column name kind named is = λ i. record { name = named i; kind = is i }

pub sample_fits : (values : List Value) (first : ℕ) (partition text : List ℕ) →
    values ≡ Int8 (first ∷ 0 ∷ []) ∷ Text partition ∷ Int (pos 1) ∷ Text text ∷ [] → length partition ≤ 16 → length text ≤ 16 → are_fitting sample_columns values ≡ true
sample_fits values first partition text are short brief =
    let low : length partition ≤ MOST_VALUE_BYTES = omega (arith, short) in
    let less : length text ≤ MOST_VALUE_BYTES = omega (arith, brief) in
    ap (are_fitting sample_columns) are ∙ ap₂ (λ a b. a && (b && true)) (le-leb (length partition) MOST_VALUE_BYTES low) (le-leb (length text) MOST_VALUE_BYTES less)
