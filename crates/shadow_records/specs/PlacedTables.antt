-- Tables whose rows have places: a slot of a chunk each.
use Rattle.std.specs.Prelude.{◌≡◌, ℕ, ◌^◌, ℤ, Bool, true, cond, ◌&&◌, ◌==◌, nat_lt, List, [], ◌∷◌, map, Option, Some, None, slice_index_or, find}
use Rattle.std.specs.List.{list_all, AllPairs}
use Rattle.std.specs.Ordering.{int_eq}
use Rattle.vec_base.specs.Words.{is_name}
use Rattle.vec_base.specs.declared.value.Value.{Value}
use Rattle.vec_base.specs.declared.value.Value.TheVariants.{Null}
use Rattle.row_model.specs.Schemas.{is_partition}
use Rattle.row_model.specs.Valid.{IsValidTable}
use Rattle.row_model.specs.declared.row.Row.{Row}
use Rattle.row_model.specs.declared.row.Table.{Table}
use Rattle.row_model.specs.declared.schema.Column.{Column}
use Rattle.row_model.specs.declared.schema.Schema.{Schema}

-- a row in a slot of a chunk
pub record PlacedRow : Type 0 where
  pub row : Row
  pub chunk : ℕ
  pub slot : ℕ

pub record PlacedTable : Type 0 where
  pub name : List ℕ
  pub schema : Schema
  pub top : ℤ
  pub rows : List PlacedRow

-- the table without the places
abbrev pub plain_rows : List PlacedRow → List Row
plain_rows rows = map (λ placed. placed.row) rows

abbrev pub plain : PlacedTable → Table
plain table = record { schema = table.schema; rows = plain_rows table.rows; top = table.top }

-- ---- looking rows up

abbrev pub is_at : ℕ → ℕ → PlacedRow → Bool
is_at chunk slot placed = placed.chunk == chunk && placed.slot == slot

-- the row at a place
abbrev pub row_at : List PlacedRow → ℕ → ℕ → Option PlacedRow
row_at rows chunk slot = find (is_at chunk slot) rows

-- the row of a rowid
abbrev pub row_of : List PlacedRow → ℤ → Option PlacedRow
row_of rows rowid = find (λ placed. int_eq placed.row.rowid rowid) rows

-- the first row of a chunk; a chunk is there where it has a row
abbrev pub first_in : List PlacedRow → ℕ → Option PlacedRow
first_in rows chunk = find (λ placed. placed.chunk == chunk) rows

-- the value in a column, by its place from 0
abbrev pub value_in : ℕ → PlacedRow → Value
value_in column placed = slice_index_or placed.row.values column Null

-- ---- partition values

-- the values that stand in the partition columns
abbrev pub partition_of : List Column → List Value → List Value
partition_of (column ∷ columns) (value ∷ values) =
    cond (is_partition column.kind) (value ∷ partition_of columns values) (partition_of columns values)
partition_of [] values = []
partition_of (column ∷ columns) [] = []

-- ---- sound places

-- a chunk with a positive number of 32 bits, and one of its slots
abbrev pub is_place : ℕ → PlacedRow → Bool
is_place size placed = nat_lt 0 placed.chunk && (nat_lt placed.chunk (2 ^ 32) && nat_lt placed.slot size)

-- the places of two rows differ
abbrev pub AreApart : PlacedRow → PlacedRow → Type 0
AreApart p q = p.chunk ≡ q.chunk → p.slot ≡ q.slot → ⊥

-- two rows of one chunk have the same partition values
abbrev pub AreAlike : List Column → PlacedRow → PlacedRow → Type 0
AreAlike columns p q = p.chunk ≡ q.chunk → partition_of columns p.row.values ≡ partition_of columns q.row.values

-- a valid table with a name in lower case, whose rows have sound places
pub record IsPlaced (table : PlacedTable) : Type 0 where
  pub valid : IsValidTable (plain table)
  pub name : is_name table.name ≡ true
  pub places : list_all (is_place table.schema.chunk_size) table.rows ≡ true
  pub apart : AllPairs AreApart table.rows
  pub alike : AllPairs (AreAlike table.schema.columns) table.rows
