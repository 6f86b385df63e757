-- What the records of a table say of a row.
use Rattle.std.specs.Prelude.{ℕ, ℤ, pos, Bool, cond, ◌&&◌, List, [], ◌∷◌, ◌++◌, Option, Some, None, is_some}
use Rattle.std.specs.FinMap.{find}
use Rattle.std.specs.List.{slice_get}
use Rattle.std.specs.Option.{option_and_then, option_map}
use Rattle.vec_base.specs.declared.shadow.ShadowKey.{ShadowKey}
use Rattle.vec_base.specs.declared.value.Value.{Value}
use Rattle.vec_base.specs.declared.value.Value.TheVariants.{Int, Int8, Bits}
use Rattle.row_model.specs.declared.schema.Column.{Column}
use Rattle.row_model.specs.declared.schema.Kind.{Kind}
use Rattle.row_model.specs.declared.schema.Kind.TheVariants.{IntKey, TextKey, Int8Vector, BitVector, IntPartition, TextPartition, IntMeta, TextMeta, BoolMeta, IntAux, TextAux, BlobAux}
use Rattle.row_model.specs.Schemas.{has_role, role_of, count_of}
use Rattle.shadow_records.specs.Cells.{cell_width}
use Rattle.shadow_records.specs.Keys.{key_cmp, key_of}
use Rattle.shadow_records.specs.PlacedTables.{PlacedRow}
use Rattle.shadow_records.specs.declared.kinds.TheConstants.{CHUNK_RECORDS, ROW_RECORDS, VECTOR_RECORDS, METADATA_RECORDS, LONG_TEXT_RECORDS, AUXILIARY_RECORDS}
use Rattle.record_bodies.specs.declared.reading.ReadRow.{ReadRow}
use Rattle.record_bodies.specs.Bodies.{place_in, id_in, int_in, text_in, blob_in, partition_in, joined, cell_in, bool_in, viewed_text, side_value}

-- the body of a key among records
abbrev pub body_among : List (ShadowKey × List ℕ) → ShadowKey → Option (List ℕ)
body_among records key = find key_cmp key records

-- where the values of a row stand: among the records of a table number, under a rowid, in a slot of a chunk with these partition values; and the
-- bytes behind the row's place
pub record RowSource : Type 0 where
  pub read : ShadowKey → Option (List ℕ)
  pub number : ℕ
  pub rowid : ℤ
  pub chunk : ℕ
  pub slot : ℕ
  pub id : List ℕ
  pub partition : List Value

-- the record of the row's chunk, and of the row, for a column with so many of its role before it
abbrev pub chunk_record : RowSource → ℕ → ℕ → Option (List ℕ)
chunk_record row kind before = row.read (key_of row.number kind (pos row.chunk) (pos before))

abbrev pub row_record : RowSource → ℕ → ℕ → Option (List ℕ)
row_record row kind before = row.read (key_of row.number kind row.rowid (pos before))

-- the row's cell in a column
abbrev pub row_cell : RowSource → ℕ → ℕ → Kind → Option (List ℕ)
row_cell row kind before column = option_and_then (cell_in (cell_width column) row.slot) (chunk_record row kind before)

-- the row's value in a column with so many of its role before it
abbrev pub value_of : RowSource → ℕ → Kind → Option Value
value_of row before IntKey = Some (Int row.rowid)
value_of row before TextKey = text_in row.id
value_of row before (Int8Vector width metric) = option_map Int8 (row_cell row VECTOR_RECORDS before (Int8Vector width metric))
value_of row before (BitVector width) = option_map Bits (row_cell row VECTOR_RECORDS before (BitVector width))
value_of row before IntPartition = slice_get row.partition before
value_of row before TextPartition = slice_get row.partition before
value_of row before IntMeta = option_and_then int_in (row_cell row METADATA_RECORDS before IntMeta)
value_of row before TextMeta = option_and_then (viewed_text (row_record row LONG_TEXT_RECORDS before)) (row_cell row METADATA_RECORDS before TextMeta)
value_of row before BoolMeta = option_and_then (bool_in row.slot) (chunk_record row METADATA_RECORDS before)
value_of row before IntAux = side_value int_in (row_record row AUXILIARY_RECORDS before)
value_of row before TextAux = side_value text_in (row_record row AUXILIARY_RECORDS before)
value_of row before BlobAux = side_value blob_in (row_record row AUXILIARY_RECORDS before)

-- how many of these columns have the role of a kind
abbrev pub alike_before : Kind → List Column → ℕ
alike_before kind columns = count_of (has_role (role_of kind)) columns

-- the values in the columns behind those before
abbrev pub values_of : RowSource → List Column → List Column → Option (List Value)
values_of row before [] = Some []
values_of row before (column ∷ columns) =
    joined (value_of row (alike_before column.kind before) column.kind) (values_of row (before ++ column ∷ []) columns)

-- ---- rows

-- the chunk has a record of its used slots and one of their rowids
abbrev pub has_slot_records : (ShadowKey → Option (List ℕ)) → ℕ → ℕ → Bool
has_slot_records read number chunk =
    is_some (read (key_of number CHUNK_RECORDS (pos chunk) (pos 1))) && is_some (read (key_of number CHUNK_RECORDS (pos chunk) (pos 2)))

abbrev pub placed_row : ℤ → ℕ × ℕ → List Value → PlacedRow
placed_row rowid place values = record { row = record { rowid = rowid; values = values }; chunk = place.0; slot = place.1 }

abbrev pub with_partition : (ShadowKey → Option (List ℕ)) → ℕ → List Column → ℤ → List ℕ → ℕ × ℕ → Option (List Value) → Option PlacedRow
with_partition read number columns rowid id place None = None
with_partition read number columns rowid id place (Some partition) =
    option_map (placed_row rowid place)
    (values_of (record { read = read; number = number; rowid = rowid; chunk = place.0; slot = place.1; id = id; partition = partition }) [] columns)

abbrev pub at_place : (ShadowKey → Option (List ℕ)) → ℕ → List Column → ℤ → List ℕ → Option (ℕ × ℕ) → Option PlacedRow
at_place read number columns rowid id None = None
at_place read number columns rowid id (Some place) =
    cond (has_slot_records read number place.0)
    (with_partition read number columns rowid id place (option_and_then (partition_in columns) (read (key_of number CHUNK_RECORDS (pos place.0) (pos 0)))))
    None

-- the row of a rowid that a body with its place shows, beside the other records of the table number
abbrev pub decoded_from : (ShadowKey → Option (List ℕ)) → ℕ → List Column → ℤ → Option (List ℕ) → Option PlacedRow
decoded_from read number columns rowid None = None
decoded_from read number columns rowid (Some body) = at_place read number columns rowid (id_in body) (place_in body)

-- the row that the records of the table number show for a rowid
abbrev pub decoded : (ShadowKey → Option (List ℕ)) → ℕ → List Column → ℤ → Option PlacedRow
decoded read number columns rowid = decoded_from read number columns rowid (read (key_of number ROW_RECORDS rowid (pos 0)))

-- a row that was read, as the row of a rowid
abbrev pub read_as : ℤ → ReadRow → PlacedRow
read_as rowid row = placed_row rowid (row.chunk, row.slot) row.values
