-- How many records a group of keys has.
use Rattle.std.specs.Prelude.{ℕ, ◌==◌, if◌then◌else◌, List}
use Rattle.row_model.specs.Schemas.{count_of, is_auxiliary, is_metadata, is_vector}
use Rattle.row_model.specs.declared.schema.Column.{Column}
use Rattle.shadow_records.specs.declared.kinds.TheConstants.{CHUNK_RECORDS, ROW_RECORDS, VECTOR_RECORDS, AUXILIARY_RECORDS}

-- a chunk or a row has at most so many records of the kind, by their second number
abbrev pub group_count : List Column → ℕ → ℕ
group_count columns kind =
    if kind == CHUNK_RECORDS then 3
    else if kind == ROW_RECORDS then 1
    else if kind == VECTOR_RECORDS then count_of is_vector columns
    else if kind == AUXILIARY_RECORDS then count_of is_auxiliary columns
    else count_of is_metadata columns
