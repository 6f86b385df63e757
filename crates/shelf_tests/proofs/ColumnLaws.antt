-- The column of the tests makes a valid schema, and the name of the tests is a name.
use Rattle.std.proofs.Common.{◌≡◌, ℕ, List, true, codes, refl, ap, ◌∙◌}
use Rattle.std.specs.List.{list_all}
use Rattle.vec_base.specs.Words.{is_name, is_reserved}
use Rattle.row_model.specs.Schemas.{IsValidSchema, schema_fault}
use Rattle.row_model.specs.declared.schema.Column.{Column}
use Rattle.row_model.specs.declared.schema.Schema.{Schema}
use Rattle.shelf_tests.specs.OneTable.{one_column}

abbrev schema_of : List Column → ℕ → Schema
schema_of columns size = record { columns = columns; chunk_size = size }

pub valid_one : (schema : Schema) → schema.columns ≡ one_column → schema.chunk_size ≡ 8 → IsValidSchema schema
unfolding is_reserved
valid_one schema columns size = record {
  rules = ap (λ cs. schema_fault (schema_of cs schema.chunk_size)) columns ∙ ap (λ n. schema_fault (schema_of one_column n)) size ∙ refl;
  names = ap (list_all (λ column. is_name column.name)) columns ∙ refl;
}

pub name_v : is_name (codes "v") ≡ true
unfolding is_reserved
name_v = refl
