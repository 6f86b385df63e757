-- Catalogs with a table of one column.
use Rattle.std.specs.Prelude.{◌≡◌, ℕ, ◌-◌, ◌≤◌, List, [], ◌∷◌, slice_index_or, Option, Some, None, codes}
use Rattle.vec_base.specs.declared.limits.TheConstants.{MOST_TABLES}
use Rattle.row_model.specs.declared.schema.Column.{Column}
use Rattle.row_model.specs.declared.schema.Kind.TheVariants.{Int8Vector}
use Rattle.row_model.specs.declared.schema.Metric.TheVariants.{L2}
use Rattle.table_version.specs.Versions.{VersionState}
use Rattle.version_shelf.specs.OnShelf.{at_place, OnShelf}

-- a int8[2]
abbrev pub one_column : List Column
one_column = record { name = codes "a"; kind = Int8Vector 2 L2 } ∷ []

-- a table of the column stands under the number
pub record HasTable (shelf : List (Option VersionState)) (places : List (Option ℕ)) (number : ℕ) : Type 0 where
  pub low : 1 ≤ number
  pub high : number ≤ MOST_TABLES
  pub on : OnShelf shelf places
  pub version : VersionState
  pub there : at_place shelf (slice_index_or places (number - 1) None) ≡ Some version
  pub columns : version.table.schema.columns ≡ one_column
