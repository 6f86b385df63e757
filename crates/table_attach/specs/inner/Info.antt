-- What a table is called and made of, and its top, as records have them.
use Rattle.std.specs.Prelude.{◌≡◌, ℕ, ℤ, pos, true, int_le, List, ◌∷◌, ◌++◌, length}
use Rattle.vec_base.specs.Words.{is_name}
use Rattle.vec_base.specs.declared.limits.TheConstants.{LAST_ROWID}
use Rattle.row_model.specs.CanonicalColumns.{canonical_columns}
use Rattle.row_model.specs.Schemas.{IsValidSchema}
use Rattle.row_model.specs.declared.schema.Schema.{Schema}
use Rattle.shadow_records.specs.Cells.{number_bytes}

-- the body of a name and a schema: the length of the name in one byte, the name, and the text of the columns
abbrev pub info_bytes : List ℕ → Schema → List ℕ
info_bytes name schema = length name ∷ (name ++ canonical_columns schema)

-- a table of this name and schema can have the body, and no other table has it
pub record IsInfo (body name : List ℕ) (schema : Schema) : Type 0 where
  pub name_is : is_name name ≡ true
  pub valid : IsValidSchema schema
  pub only_name : (other : List ℕ) (columns : Schema) → IsValidSchema columns → info_bytes other columns ≡ body → name ≡ other
  pub only_schema : (other : List ℕ) (columns : Schema) → IsValidSchema columns → info_bytes other columns ≡ body → schema ≡ columns

-- no table has the body
abbrev pub IsNoInfo : List ℕ → Type 0
IsNoInfo body = (name : List ℕ) (schema : Schema) → is_name name ≡ true → IsValidSchema schema → info_bytes name schema ≡ body → ⊥

-- a number that can be the greatest rowid of a table
pub record CanBeTop (top : ℤ) : Type 0 where
  pub from_zero : int_le (pos 0) top ≡ true
  pub last : int_le top LAST_ROWID ≡ true

-- the body is that of this top and of no other
pub record IsTop (body : List ℕ) (top : ℤ) : Type 0 where
  pub from_zero : int_le (pos 0) top ≡ true
  pub only : (other : ℤ) → CanBeTop other → number_bytes other ≡ body → top ≡ other

-- the body is that of no top
abbrev pub IsNoTop : List ℕ → Type 0
IsNoTop body = (top : ℤ) → CanBeTop top → number_bytes top ≡ body → ⊥
