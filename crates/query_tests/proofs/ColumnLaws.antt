-- The columns of the tests make valid schemas, and the name of the tests is one.
use Rattle.std.proofs.Common.{◌≡◌, ◌≤◌, None, ℕ, ℤ, pos, List, [], ◌∷◌, true, codes, length, refl, ap, ap₂, arith, ◌∙◌}
use Rattle.std.specs.Prelude.{◌&&◌, ◌==◌}
use Rattle.std.proofs.lemmas.Bool.{le-leb}
use Rattle.vec_base.specs.declared.limits.TheConstants.{MOST_VALUE_BYTES}
use Rattle.vec_base.specs.declared.value.Value.{Value}
use Rattle.vec_base.specs.declared.value.Value.TheVariants.{Int, Int8, Bits, Text}
use Rattle.table_version.specs.Inserting.{are_fitting}
use Rattle.std.specs.List.{list_all}
use Rattle.vec_base.specs.Words.{is_name, is_reserved}
use Rattle.row_model.specs.Schemas.{IsValidSchema, schema_fault}
use Rattle.row_model.specs.declared.schema.Column.{Column}
use Rattle.row_model.specs.declared.schema.Schema.{Schema}
use Rattle.query_tests.specs.Columns.{bit_columns, document_columns, vector_columns, wide_columns}

abbrev schema_of : List Column → ℕ → Schema
schema_of columns size = record { columns = columns; chunk_size = size }

valid_from : (columns : List Column) (schema : Schema) → schema_fault (schema_of columns 8) ≡ None → list_all (λ column. is_name column.name) columns ≡ true →
    schema.columns ≡ columns → schema.chunk_size ≡ 8 → IsValidSchema schema
valid_from columns schema rules names same size = record {
  rules = ap (λ cs. schema_fault (schema_of cs schema.chunk_size)) same ∙ ap (λ n. schema_fault (schema_of columns n)) size ∙ rules;
  names = ap (list_all (λ column. is_name column.name)) same ∙ names;
}

pub valid_documents : (schema : Schema) → schema.columns ≡ document_columns → schema.chunk_size ≡ 8 → IsValidSchema schema
unfolding is_reserved
valid_documents schema = valid_from document_columns schema refl refl

pub valid_bits : (schema : Schema) → schema.columns ≡ bit_columns → schema.chunk_size ≡ 8 → IsValidSchema schema
unfolding is_reserved
valid_bits schema = valid_from bit_columns schema refl refl

pub valid_wide : (schema : Schema) → schema.columns ≡ wide_columns → schema.chunk_size ≡ 8 → IsValidSchema schema
unfolding is_reserved
valid_wide schema = valid_from wide_columns schema refl refl

pub valid_vectors : (schema : Schema) → schema.columns ≡ vector_columns → schema.chunk_size ≡ 8 → IsValidSchema schema
unfolding is_reserved
valid_vectors schema = valid_from vector_columns schema refl refl

pub name_v : is_name (codes "v") ≡ true
unfolding is_reserved
name_v = refl

pub document_fits : (values : List Value) (user title : List ℕ) (year : ℤ) (last : ℕ) →
    values ≡ Int (pos 0) ∷ Text user ∷ Int year ∷ Int (pos 1) ∷ Int8 (1 ∷ 2 ∷ 3 ∷ last ∷ []) ∷ Text title ∷ [] → length user ≤ 8 → length title ≤ 8 → are_fitting document_columns values ≡ true
document_fits values user title year last are short brief =
    let low : length user ≤ MOST_VALUE_BYTES = omega (arith, short) in
    let less : length title ≤ MOST_VALUE_BYTES = omega (arith, brief) in
    ap (are_fitting document_columns) are ∙ ap₂ (λ a b. a && (b && true)) (le-leb (length user) MOST_VALUE_BYTES low) (le-leb (length title) MOST_VALUE_BYTES less)

pub bits_fit : (values : List Value) (byte : ℕ) (text : List ℕ) → values ≡ Bits (byte ∷ []) ∷ Text text ∷ [] → length text ≤ 16 → are_fitting bit_columns values ≡ true
bits_fit values byte text are short =
    let low : length text ≤ MOST_VALUE_BYTES = omega (arith, short) in
    ap (are_fitting bit_columns) are ∙ ap (λ b. b && true) (le-leb (length text) MOST_VALUE_BYTES low)

pub wide_fits : (values : List Value) (x y : List ℕ) → values ≡ Int8 x ∷ Int8 y ∷ [] → length x ≡ 8192 → length y ≡ 8192 → are_fitting wide_columns values ≡ true
wide_fits values x y are long wide =
    ap (are_fitting wide_columns) are ∙ ap₂ (λ (n m : ℕ). ((8192 == n) && true) && (((8192 == m) && true) && true)) long wide
