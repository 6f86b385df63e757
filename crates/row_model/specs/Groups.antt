-- Groups of columns whose values are kept together, and where a column stands in its group.
use Rattle.std.specs.Prelude.{ℕ, zero, suc, Bool, ◌||◌, cond, List, [], ◌∷◌, Option}
use Rattle.std.specs.List.{slice_get}
use Rattle.std.specs.Option.{option_map}
use Rattle.row_model.specs.Schemas.{is_auxiliary, is_metadata, is_partition, is_vector}
use Rattle.row_model.specs.declared.groups.Group.{Group}
use Rattle.row_model.specs.declared.groups.Group.TheVariants.{Vectors, Partitions, Cells}
use Rattle.row_model.specs.declared.schema.Column.{Column}
use Rattle.row_model.specs.declared.schema.Kind.{Kind}

-- metadata and auxiliary columns together have the cells of a row
abbrev pub is_in : Group → Kind → Bool
is_in Vectors kind = is_vector kind
is_in Partitions kind = is_partition kind
is_in Cells kind = is_metadata kind || is_auxiliary kind

-- the kind of the column at a place, from 0
abbrev pub kind_in : List Column → ℕ → Option Kind
kind_in columns place = option_map (λ column. column.kind) (slice_get columns place)

-- how many columns of the sort stand before a place
abbrev pub before_in : (Kind → Bool) → List Column → ℕ → ℕ
before_in sort [] place = 0
before_in sort (column ∷ columns) zero = 0
before_in sort (column ∷ columns) (suc place) = cond (sort column.kind) (suc (before_in sort columns place)) (before_in sort columns place)
