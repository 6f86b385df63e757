-- The records of a table with places, key by key. Source: the shadow tables of sqlite-vec's vec0, whose info, chunks, rowids, vector chunks,
-- metadata chunks, metadata texts and auxiliary rows these kinds follow; the bytes are this project's own.
use Rattle.std.specs.Prelude.{ℕ, zero, suc, ◌==◌, ℤ, pos, negsuc, ◌≡◌, Bool, true, false, cond, if◌then◌else◌, List, [], ◌∷◌, ◌++◌, length, replicate, Option, Some, None}
use Rattle.std.specs.List.{flat_map}
use Rattle.std.specs.Option.{option_map}
use Rattle.std.specs.Int.{to_le_bytes, w16, w32}
use Rattle.vec_base.specs.declared.shadow.ShadowKey.{ShadowKey}
use Rattle.vec_base.specs.declared.value.Value.{Value}
use Rattle.vec_base.specs.declared.value.Value.TheVariants.{Text}
use Rattle.row_model.specs.CanonicalColumns.{canonical_columns}
use Rattle.row_model.specs.Schemas.{is_vector, is_metadata, is_auxiliary}
use Rattle.row_model.specs.declared.schema.Column.{Column}
use Rattle.row_model.specs.declared.schema.Kind.{Kind}
use Rattle.row_model.specs.declared.schema.Kind.TheVariants.{TextKey, BoolMeta}
use Rattle.shadow_records.specs.Cells.{laid, bitmap, number_bytes, value_cell, cell_width, is_one, partition_value_bytes, long_text, side_body}
use Rattle.shadow_records.specs.PlacedTables.{PlacedRow, PlacedTable, row_at, row_of, first_in, value_in, partition_of}
use Rattle.shadow_records.specs.declared.kinds.TheConstants.{INFO_RECORDS, CHUNK_RECORDS, ROW_RECORDS, VECTOR_RECORDS, METADATA_RECORDS, LONG_TEXT_RECORDS, AUXILIARY_RECORDS}

-- ---- columns and values

-- a column: its place among all columns, from 0, and its kind
pub record ColumnAt : Type 0 where
  pub place : ℕ
  pub kind : Kind

-- the column of a role with so many of that role before it, where the columns begin at a place
abbrev pub nth_column : (Kind → Bool) → ℕ → List Column → ℕ → Option ColumnAt
nth_column has_role place [] before = None
nth_column has_role place (column ∷ columns) zero =
    cond (has_role column.kind) (Some (record { place = place; kind = column.kind })) (nth_column has_role (suc place) columns zero)
nth_column has_role place (column ∷ columns) (suc before) =
    cond (has_role column.kind) (nth_column has_role (suc place) columns before) (nth_column has_role (suc place) columns (suc before))

-- the text of a text key, if the column is one
abbrev pub id_of : Kind → Value → List ℕ
id_of TextKey (Text text) = text
id_of _ _ = []

-- the text id of a row
abbrev pub id_bytes : List Column → List Value → List ℕ
id_bytes (column ∷ columns) (value ∷ values) = id_of column.kind value ++ id_bytes columns values
id_bytes [] values = []
id_bytes (column ∷ columns) [] = []

-- ---- cells of slots; those of a free slot are zeros

abbrev pub slot_cell : ColumnAt → Option PlacedRow → List ℕ
slot_cell column None = replicate (cell_width column.kind) 0
slot_cell column (Some placed) = value_cell (value_in column.place placed)

abbrev pub slot_bit : ColumnAt → Option PlacedRow → Bool
slot_bit column None = false
slot_bit column (Some placed) = is_one (value_in column.place placed)

abbrev pub is_used : Option PlacedRow → Bool
is_used None = false
is_used (Some placed) = true

abbrev pub rowid_cell : Option PlacedRow → List ℕ
rowid_cell None = replicate 8 0
rowid_cell (Some placed) = number_bytes placed.row.rowid

-- ---- bodies

-- At 0 what the table is called and made of, at 1 its top.
abbrev pub info_body : PlacedTable → ℤ → Option (List ℕ)
info_body table (pos zero) = Some (length table.name ∷ (table.name ++ canonical_columns table.schema))
info_body table (pos (suc zero)) = Some (number_bytes table.top)
info_body table _ = None

-- Of a chunk with this first row, at 0 the partition values, at 1 which slots are used, at 2 their rowids.
abbrev pub chunk_body : PlacedTable → ℕ → ℤ → PlacedRow → Option (List ℕ)
chunk_body table chunk (pos zero) first = Some (flat_map partition_value_bytes (partition_of table.schema.columns first.row.values))
chunk_body table chunk (pos (suc zero)) first = Some (bitmap (λ slot. is_used (row_at table.rows chunk slot)) table.schema.chunk_size)
chunk_body table chunk (pos (suc (suc zero))) first = Some (laid (λ slot. rowid_cell (row_at table.rows chunk slot)) table.schema.chunk_size)
chunk_body table chunk _ first = None

-- of a row its chunk in four bytes, its slot in two, and its text id
abbrev pub place_body : List Column → Option PlacedRow → Option (List ℕ)
place_body columns None = None
place_body columns (Some placed) = Some (to_le_bytes w32 placed.chunk ++ to_le_bytes w16 placed.slot ++ id_bytes columns placed.row.values)

abbrev pub is_bits_column : Kind → Bool
is_bits_column BoolMeta = true
is_bits_column _ = false

-- of a chunk and a column the cells of the slots: one bit each for truth values, else whole bytes
abbrev pub cells_body : PlacedTable → ℕ → ColumnAt → List ℕ
cells_body table chunk column =
    cond (is_bits_column column.kind)
    (bitmap (λ slot. slot_bit column (row_at table.rows chunk slot)) table.schema.chunk_size)
    (laid (λ slot. slot_cell column (row_at table.rows chunk slot)) table.schema.chunk_size)

-- of a row and a column what a value has as a body of its own
abbrev pub value_body : (Value → Option (List ℕ)) → Option PlacedRow → Option ColumnAt → Option (List ℕ)
value_body body None column = None
value_body body (Some placed) None = None
value_body body (Some placed) (Some column) = body (value_in column.place placed)

-- ---- keys

abbrev pub at_zero : ℤ → Option (List ℕ) → Option (List ℕ)
at_zero (pos zero) body = body
at_zero _ body = None

abbrev pub column_at : (Kind → Bool) → PlacedTable → ℤ → Option ColumnAt
column_at has_role table (pos before) = nth_column has_role 0 table.schema.columns before
column_at has_role table (negsuc n) = None

abbrev pub of_first : (PlacedRow → Option (List ℕ)) → Option PlacedRow → Option (List ℕ)
of_first body None = None
of_first body (Some first) = body first

-- what a chunk has, where it is there
abbrev pub of_chunk : PlacedTable → (ℕ → PlacedRow → Option (List ℕ)) → ℤ → Option (List ℕ)
of_chunk table body (pos chunk) = of_first (body chunk) (first_in table.rows chunk)
of_chunk table body (negsuc n) = None

-- The first number of a key is 0 or 1, a chunk or a rowid; the second one is 0 to 2, or tells a column by how many of its role stand before it.
abbrev pub body_at : PlacedTable → ℕ → ℤ → ℤ → Option (List ℕ)
body_at table kind a b =
    if kind == INFO_RECORDS then at_zero b (info_body table a)
    else if kind == CHUNK_RECORDS then of_chunk table (λ chunk. chunk_body table chunk b) a
    else if kind == ROW_RECORDS then at_zero b (place_body table.schema.columns (row_of table.rows a))
    else if kind == VECTOR_RECORDS then of_chunk table (λ chunk first. option_map (cells_body table chunk) (column_at is_vector table b)) a
    else if kind == METADATA_RECORDS then of_chunk table (λ chunk first. option_map (cells_body table chunk) (column_at is_metadata table b)) a
    else if kind == LONG_TEXT_RECORDS then value_body long_text (row_of table.rows a) (column_at is_metadata table b)
    else if kind == AUXILIARY_RECORDS then value_body side_body (row_of table.rows a) (column_at is_auxiliary table b)
    else None

-- the body of a key in a table, if there is one
abbrev pub body_of : PlacedTable → ShadowKey → Option (List ℕ)
body_of table key = body_at table key.kind key.a key.b

-- the records with this table number are the table's, and no others
abbrev pub RecordsAre : ℕ → PlacedTable → (ShadowKey → Option (List ℕ)) → Type 0
RecordsAre number table read = (key : ShadowKey) → key.table ≡ number → read key ≡ body_of table key
