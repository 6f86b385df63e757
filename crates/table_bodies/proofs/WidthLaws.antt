-- How wide the cells of a column are.
use Rattle.std.proofs.Common.{◌≡◌, ℕ, ◌%◌, ◌≤◌, ◌==◌, ℤ, length, get_or, Bool, true, false, not, ◌&&◌, ◌||◌, nat_le, refl, sym, ap, ◌∙◌, arith}
use Rattle.std.specs.declared.option.Option.{Option}
use Rattle.std.specs.declared.option.Option.TheVariants.{Some, None}
use Rattle.std.specs.List.{list_all, find}
use Rattle.std.proofs.lemmas.List.{length-replicate}
use Rattle.std.proofs.lemmas.Bool.{and_parts, false≢true, leb-true}
use Rattle.vec_base.specs.declared.value.Value.{Value}
use Rattle.vec_base.specs.declared.value.Value.TheVariants.{Null}
use Rattle.row_model.specs.Schemas.{is_vector, is_metadata, is_misfit_int8, is_misfit_bits}
use Rattle.row_model.specs.Valid.{is_valid_value, are_valid_values, is_valid_row}
use Rattle.row_model.specs.declared.schema.Kind.{Kind}
use Rattle.row_model.specs.declared.schema.Kind.TheVariants.{IntKey, TextKey, Int8Vector, BitVector, IntPartition, TextPartition, IntMeta, TextMeta, BoolMeta, IntAux, TextAux, BlobAux}
use Rattle.shadow_records.specs.Cells.{value_cell, cell_width}
use Rattle.shadow_records.specs.PlacedTables.{PlacedRow, PlacedTable, IsPlaced, is_at, row_at}
use Rattle.shadow_records.specs.Records.{ColumnAt, nth_column, slot_cell, rowid_cell, is_bits_column}
use Rattle.record_bodies.proofs.FindLaws.{found_all, all_rows}
use Rattle.record_bodies.proofs.ValueLaws.{as_int8, as_bits, as_int, as_text, length_view}
use Rattle.vec0_columns.proofs.Written.{has_sizes, width_int8, width_bits}
use Rattle.table_bodies.proofs.ColumnLaws.{column_stands}

-- ---- how wide a cell is

-- the cells of a column of this kind have whole bytes
abbrev pub has_cells : Kind → Bool
has_cells kind = (is_vector kind || is_metadata kind) && not (is_bits_column kind)

abbrev not_misfit : (x y : Bool) → not (x && y) ≡ false → (x ≡ true) × (y ≡ true)
not_misfit true true e = (refl, refl)
not_misfit true false e = absurd (false≢true (sym e))
not_misfit false y e = absurd (false≢true (sym e))

-- a cell has a byte at least and 8,192 at most
pub record IsWidth (width : ℕ) : Type 0 where
  pub least : 1 ≤ width
  pub most : width ≤ 8192

pub kind-width : (kind : Kind) → has_cells kind ≡ true → is_misfit_int8 kind ≡ false → is_misfit_bits kind ≡ false → IsWidth (cell_width kind)
kind-width (Int8Vector width metric) is bytes bits =
    record { least = leb-true 1 width (not_misfit (nat_le 1 width) (nat_le width 8192) bytes).0; most = width_int8 width metric bytes }
kind-width (BitVector width) is bytes bits =
    let fits = not_misfit (is_eighth && nat_le 8 width) (nat_le width 8192) bits in
    let least : 8 ≤ width = leb-true 8 width (and_parts is_eighth (nat_le 8 width) fits.0).1 in
    let most : width ≤ 8192 = width_bits width bits in
    record { least = omega (arith, least); most = omega (arith, most) } where
      is_eighth : Bool
      is_eighth = width % 8 == 0
kind-width IntMeta is bytes bits = record { least = omega arith; most = omega arith }
kind-width TextMeta is bytes bits = record { least = omega arith; most = omega arith }
kind-width IntKey is bytes bits = absurd (false≢true is)
kind-width TextKey is bytes bits = absurd (false≢true is)
kind-width IntPartition is bytes bits = absurd (false≢true is)
kind-width TextPartition is bytes bits = absurd (false≢true is)
kind-width BoolMeta is bytes bits = absurd (false≢true is)
kind-width IntAux is bytes bits = absurd (false≢true is)
kind-width TextAux is bytes bits = absurd (false≢true is)
kind-width BlobAux is bytes bits = absurd (false≢true is)

value-width : (kind : Kind) (rowid : ℤ) (x : Value) → has_cells kind ≡ true → is_valid_value kind rowid x ≡ true → length (value_cell x) ≡ cell_width kind
value-width (Int8Vector width metric) rowid x is e = (let v = as_int8 width metric rowid x e in ap (λ y. length (value_cell y)) v.1.0 ∙ v.1.1)
value-width (BitVector width) rowid x is e = (let v = as_bits width rowid x e in ap (λ y. length (value_cell y)) v.1.0 ∙ v.1.1)
value-width IntMeta rowid x is e = (let v = as_int rowid x e in ap (λ y. length (value_cell y)) v.1)
value-width TextMeta rowid x is e = (let v = as_text rowid x e in ap (λ y. length (value_cell y)) v.1.0 ∙ length_view v.0)
value-width IntKey rowid x is e = absurd (false≢true is)
value-width TextKey rowid x is e = absurd (false≢true is)
value-width IntPartition rowid x is e = absurd (false≢true is)
value-width TextPartition rowid x is e = absurd (false≢true is)
value-width BoolMeta rowid x is e = absurd (false≢true is)
value-width IntAux rowid x is e = absurd (false≢true is)
value-width TextAux rowid x is e = absurd (false≢true is)
value-width BlobAux rowid x is e = absurd (false≢true is)

-- ---- rows of a sound table

valid_rows : (table : PlacedTable) → IsPlaced table → list_all (λ placed. is_valid_row table.schema.columns placed.row) table.rows ≡ true
valid_rows table placed = sym (all_rows (λ (x : PlacedRow). x.row) (is_valid_row table.schema.columns) table.rows) ∙ placed.valid.values

pub found-valid : (table : PlacedTable) → IsPlaced table → (test : PlacedRow → Bool) (p : PlacedRow) → find test table.rows ≡ Some p → are_valid_values table.schema.columns p.row.rowid p.row.values ≡ true
found-valid table placed test p e = found_all test (λ (x : PlacedRow). is_valid_row table.schema.columns x.row) table.rows p (valid_rows table placed) e

-- ---- the cells of a column

-- the column is one of the table's, with cells of whole bytes
pub record HasWholeCells (table : PlacedTable) (c : ColumnAt) : Type 0 where
  pub role : Kind → Bool
  pub before : ℕ
  pub is : nth_column role 0 table.schema.columns before ≡ Some c
  pub whole : has_cells c.kind ≡ true

-- the width of a column's cells
pub column-width : (table : PlacedTable) (c : ColumnAt) → IsPlaced table → HasWholeCells table c → IsWidth (cell_width c.kind)
column-width table c placed has =
    let stands = column_stands has.role 0 table.schema.columns has.before c has.is in
    let sizes = has_sizes table.schema placed.valid.schema.rules in
    kind-width c.kind has.whole (stands.passes is_misfit_int8 sizes.bytes) (stands.passes is_misfit_bits sizes.bits)

-- each cell of a column is as wide as the column's cells
pub slot_cell-length : (table : PlacedTable) (c : ColumnAt) → IsPlaced table → HasWholeCells table c → (chunk slot : ℕ) → length (slot_cell c (row_at table.rows chunk slot)) ≡ cell_width c.kind
slot_cell-length table c placed has chunk slot = by (row_at table.rows chunk slot) refl where
  by : (row : Option PlacedRow) → row_at table.rows chunk slot ≡ row → length (slot_cell c row) ≡ cell_width c.kind
  by None e = length-replicate {A = ℕ} (cell_width c.kind) 0
  by (Some p) e =
      let stands = column_stands has.role 0 table.schema.columns has.before c has.is in
      let valid = stands.valid p.row.rowid p.row.values (found-valid table placed (is_at chunk slot) p e) in
      let place : c.place ≡ stands.index = omega (arith, stands.place) in
      ap (λ k. length (value_cell (get_or p.row.values k Null))) place ∙ value-width c.kind p.row.rowid (get_or p.row.values stands.index Null) has.whole valid

-- and so at most 8,192 bytes long
pub slot_cell-short : (table : PlacedTable) (c : ColumnAt) → IsPlaced table → HasWholeCells table c → (chunk slot : ℕ) → length (slot_cell c (row_at table.rows chunk slot)) ≤ 8192
slot_cell-short table c placed has chunk slot =
    let width = column-width table c placed has in
    let most = width.most in
    omega (arith, slot_cell-length table c placed has chunk slot, most)

pub rowid_cell-length : (row : Option PlacedRow) → length (rowid_cell row) ≡ 8
rowid_cell-length None = refl
rowid_cell-length (Some p) = refl
