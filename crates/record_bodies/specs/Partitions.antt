-- The form of a chunk's partition values.
use Rattle.std.specs.Prelude.{◌≡◌, ◌<◌, ◌^◌, ℕ, true, List, [], ◌∷◌, length, FitsSigned, filter, map, ⊤}
use Rattle.std.specs.Int.{w64}
use Rattle.std.specs.List.{flat_map}
use Rattle.std.specs.Str.{is_utf8}
use Rattle.vec_base.specs.declared.value.Value.{Value}
use Rattle.vec_base.specs.declared.value.Value.TheVariants.{Int, Text}
use Rattle.row_model.specs.declared.schema.Column.{Column}
use Rattle.row_model.specs.declared.schema.Kind.{Kind}
use Rattle.row_model.specs.declared.schema.Kind.TheVariants.{IntPartition, TextPartition}
use Rattle.row_model.specs.Schemas.{is_partition}
use Rattle.shadow_records.specs.Cells.{partition_value_bytes}

-- the kinds of the partition columns
abbrev pub partition_kinds : List Column → List Kind
partition_kinds columns = filter is_partition (map (λ column. column.kind) columns)

-- a number of 64 bits, or a text in UTF-8 whose length four bytes tell
abbrev pub FitsPartition : Kind → Value → Type 0
FitsPartition IntPartition (Int n) = FitsSigned w64 n
FitsPartition TextPartition (Text text) = (is_utf8 text ≡ true) × (length text < 2 ^ 32)
FitsPartition _ _ = ⊥

-- one value for each kind
abbrev pub FitPartitions : List Kind → List Value → Type 0
FitPartitions [] [] = ⊤
FitPartitions (kind ∷ kinds) (value ∷ values) = FitsPartition kind value × FitPartitions kinds values
FitPartitions _ _ = ⊥

-- the bytes are those of the values, one for each partition column
pub record IsPartition (columns : List Column) (body : List ℕ) (values : List Value) : Type 0 where
  pub fitting : FitPartitions (partition_kinds columns) values
  pub spelled : flat_map partition_value_bytes values ≡ body

-- the bytes are those of no such values
abbrev pub IsNoPartition : List Column → List ℕ → Type 0
IsNoPartition columns body = (values : List Value) → IsPartition columns body values → ⊥
