-- The values of a row in the order of its columns, with the partition values taken off the front of their bytes.
use Rattle.std.specs.Prelude.{ℕ, cond, ◌==◌, List, [], ◌∷◌, ◌++◌, length, take, drop, Option, Some, None}
use Rattle.std.specs.Option.{option_and_then, option_map}
use Rattle.vec_base.specs.declared.value.Value.{Value}
use Rattle.row_model.specs.declared.schema.Column.{Column}
use Rattle.row_model.specs.declared.schema.Kind.{Kind}
use Rattle.row_model.specs.Schemas.{is_partition}
use Rattle.shadow_records.specs.declared.kinds.TheConstants.{CHUNK_RECORDS, VECTOR_RECORDS}
use Rattle.record_bodies.specs.Bodies.{cell_in, joined, partition_value, partition_width}
use Rattle.record_bodies.specs.ReadRows.{RowSource, alike_before, body_among, chunk_record, has_slot_records, value_of}
use Rattle.record_bodies.specs.declared.sources.RowRecords.{RowRecords}

abbrev pub source_of : RowRecords → RowSource
source_of row = record { read = body_among row.records.now; number = row.number; rowid = row.rowid; chunk = row.chunk; slot = row.slot; id = row.id.now; partition = [] }

-- the row's cell among the vectors of a column
abbrev pub vector_cell : RowSource → ℕ → ℕ → Option (List ℕ)
vector_cell row before width = option_and_then (cell_in width row.slot) (chunk_record row VECTOR_RECORDS before)

-- the body of the row's chunk with its partition values, where the chunk has its other records
abbrev pub partition_body : RowSource → Option (List ℕ)
partition_body row = cond (has_slot_records row.read row.number row.chunk) (chunk_record row CHUNK_RECORDS 0) None

-- a partition value is what its own bytes say
abbrev pub value_here : RowSource → ℕ → Kind → List ℕ → Option Value
value_here row before kind bytes = cond (is_partition kind) (partition_value kind bytes) (value_of row before kind)

abbrev pub values_in_turn : RowSource → List Column → List ℕ → List Column → Option (List Value)
values_in_turn row before bytes [] = cond (length bytes == 0) (Some []) None
values_in_turn row before bytes (column ∷ columns) =
    joined (value_here row (alike_before column.kind before) column.kind (take (partition_width column.kind bytes) bytes))
    (values_in_turn row (before ++ column ∷ []) (drop (partition_width column.kind bytes) bytes) columns)

-- the items that are there, with others behind them
abbrev pub behind_items : {X : Type 0} → List X → Option (List X) → Option (List X)
behind_items items more = option_map (λ others. items ++ others) more
