-- The columns of the tests make a valid schema, and the INSERTs of the tests are well formed.
use Rattle.std.proofs.Common.{◌≡◌, ℕ, List, true, codes, length, refl, ap, ◌∙◌}
use Rattle.std.specs.Prelude.{◌==◌}
use Rattle.std.specs.List.{list_all}
use Rattle.vec_base.specs.Words.{is_name, is_reserved}
use Rattle.vec_base.specs.declared.value.Value.{Value}
use Rattle.row_model.specs.Schemas.{IsValidSchema, schema_fault}
use Rattle.row_model.specs.WellFormed.{IsWellFormedInsert, is_filled}
use Rattle.row_model.specs.declared.schema.Column.{Column}
use Rattle.row_model.specs.declared.schema.Schema.{Schema}
use Rattle.row_model.specs.declared.statement.Insert.{Insert}
use Rattle.write_tests.specs.ThreeColumns.{row_names, three_columns}

abbrev schema_of : List Column → ℕ → Schema
schema_of columns size = record { columns = columns; chunk_size = size }

pub valid_three : (schema : Schema) → schema.columns ≡ three_columns → schema.chunk_size ≡ 8 → IsValidSchema schema
unfolding is_reserved
valid_three schema columns size = record {
  rules = ap (λ cs. schema_fault (schema_of cs schema.chunk_size)) columns ∙ ap (λ n. schema_fault (schema_of three_columns n)) size ∙ refl;
  names = ap (list_all (λ column. is_name column.name)) columns ∙ refl;
}

pub name_v : is_name (codes "v") ≡ true
unfolding is_reserved
name_v = refl

names_are : list_all is_name row_names ≡ true
unfolding is_reserved
names_are = refl

pub formed : (insert : Insert) → insert.table ≡ codes "v" → insert.columns ≡ row_names → is_filled insert.rows ≡ true → list_all (λ row. length row == 4) insert.rows ≡ true → IsWellFormedInsert insert
formed insert table columns some each = record {
  table = ap is_name table ∙ name_v;
  names = ap (list_all is_name) columns ∙ names_are;
  some_name = ap is_filled columns;
  some_row = some;
  one_value_each = ap (λ (names : List (List ℕ)). list_all (λ (row : List Value). length row == length names) insert.rows) columns ∙ each;
}
