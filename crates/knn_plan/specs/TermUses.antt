-- For what a term of a WHERE is good.
use Rattle.std.specs.Prelude.{Bool, true, false, not, ◌&&◌, ◌||◌}
use Rattle.vec_base.specs.declared.value.Op.TheVariants.{Gt, Ge}
use Rattle.row_model.specs.Check.{is_match, is_member}
use Rattle.row_model.specs.ColumnNames.{is_count, is_distance, is_of, is_rowid_or_key}
use Rattle.row_model.specs.Schemas.{is_metadata, is_partition}
use Rattle.row_model.specs.declared.schema.Kind.TheVariants.{IntKey}
use Rattle.row_model.specs.declared.schema.Place.{Place}
use Rattle.row_model.specs.declared.schema.Place.TheVariants.{Rowid, Declared}
use Rattle.row_model.specs.declared.statement.Test.{Test}
use Rattle.row_model.specs.declared.statement.Test.TheVariants.{Compare}

-- a partition column, where a chunk's rows meet the term together, or a metadata column, where a filter of the chunk tests it
abbrev pub is_on_chunks : Place → Bool
is_on_chunks place = is_of is_partition place || is_of is_metadata place

-- the rowid, the key, or an auxiliary column: it is tested row by row. A MATCH and a term on k leave no row out, and one on distance is tested
-- where the distance is known.
abbrev pub is_on_rows : Place → Test → Bool
is_on_rows place test = not (is_match test || (is_count place || (is_distance place || is_on_chunks place)))

-- IN on the rowid or the key
abbrev pub lists_rows : Place → Test → Bool
lists_rows place test = is_rowid_or_key place && is_member test

-- the rowid, or an integer key
abbrev pub is_rowid : Place → Bool
is_rowid Rowid = true
is_rowid (Declared number IntKey) = true
is_rowid _ = false

-- greater or at least a value
abbrev pub is_lower : Test → Bool
is_lower (Compare Gt value) = true
is_lower (Compare Ge value) = true
is_lower _ = false

-- no row below the value meets it
abbrev pub begins_rows : Place → Test → Bool
begins_rows place test = is_rowid place && is_lower test
