-- The text id of a row, column by column.
use Rattle.std.proofs.Common.{◌≡◌, ℕ, zero, suc, ◌+◌, ℤ, List, [], ◌∷◌, ◌++◌, length, drop, refl, sym, ap, ◌∙◌, arith}
use Rattle.std.specs.Prelude.{slice_index_or}
use Rattle.std.specs.declared.option.Option.TheVariants.{Some}
use Rattle.vec_base.specs.declared.value.Value.{Value}
use Rattle.vec_base.specs.declared.value.Value.TheVariants.{Null}
use Rattle.row_model.specs.Groups.{kind_in}
use Rattle.row_model.specs.Valid.{is_valid_row}
use Rattle.row_model.specs.declared.schema.Column.{Column}
use Rattle.row_model.specs.declared.schema.Kind.{Kind}
use Rattle.row_model.specs.declared.schema.Kind.TheVariants.{IntKey, TextKey, Int8Vector, BitVector, IntPartition, TextPartition, IntMeta, TextMeta, BoolMeta, IntAux, TextAux, BlobAux}
use Rattle.record_bodies.proofs.ColumnLaws.{valid_length}
use Rattle.record_bodies.proofs.FindLaws.{all_rows, found_all}
use Rattle.shadow_records.specs.PlacedTables.{IsPlaced, PlacedRow, PlacedTable, row_of}
use Rattle.shadow_records.specs.Records.{id_bytes, id_of}
use Rattle.std.specs.Ordering.{int_eq}

pub id_other : (kind : Kind) (x : Value) → (kind ≡ TextKey → ⊥) → id_of kind x ≡ []
id_other IntKey x other = refl
id_other TextKey x other = absurd (other refl)
id_other (Int8Vector width metric) x other = refl
id_other (BitVector width) x other = refl
id_other IntPartition x other = refl
id_other TextPartition x other = refl
id_other IntMeta x other = refl
id_other TextMeta x other = refl
id_other BoolMeta x other = refl
id_other IntAux x other = refl
id_other TextAux x other = refl
id_other BlobAux x other = refl

pub kind_next : (all columns : List Column) (column : Column) (place : ℕ) → column ∷ columns ≡ drop place all → kind_in all place ≡ Some column.kind
kind_next [] columns column zero e = absurd cc
kind_next [] columns column (suc place) e = absurd cc
kind_next (c ∷ all) columns column zero e = let same : column ≡ c = cc in ap (λ (x : Column). Some x.kind) (sym same)
kind_next (c ∷ all) columns column (suc place) e = kind_next all columns column place e

pub columns_next : (all columns : List Column) (column : Column) (place : ℕ) → column ∷ columns ≡ drop place all → columns ≡ drop (place + 1) all
columns_next [] columns column zero e = absurd cc
columns_next [] columns column (suc place) e = absurd cc
columns_next (c ∷ all) columns column zero e = cc
columns_next (c ∷ all) columns column (suc place) e = let same : suc (place + 1) ≡ suc place + 1 = omega arith in columns_next all columns column place e ∙ ap (λ k. drop k (c ∷ all)) same

pub id_next : (all columns : List Column) (column : Column) (values : List Value) (place : ℕ) → column ∷ columns ≡ drop place all → length values ≡ length all →
    id_bytes (column ∷ columns) (drop place values) ≡ id_of column.kind (slice_index_or values place Null) ++ id_bytes columns (drop (place + 1) values)
id_next [] columns column values zero e long = absurd cc
id_next [] columns column values (suc place) e long = absurd cc
id_next (c ∷ all) columns column [] place e long = absurd (omega (arith, long))
id_next (c ∷ all) columns column (x ∷ values) zero e long = refl
id_next (c ∷ all) columns column (x ∷ values) (suc place) e long =
    let same : suc (place + 1) ≡ suc place + 1 = omega arith in
    id_next all columns column values place e (omega (arith, long)) ∙ ap (λ k. id_of column.kind (slice_index_or values place Null) ++ id_bytes columns (drop k (x ∷ values))) same

pub id_end : (values : List Value) → id_bytes [] values ≡ []
id_end [] = refl
id_end (x ∷ values) = refl

pub row_valued : (table : PlacedTable) (rowid : ℤ) (p : PlacedRow) → IsPlaced table → row_of table.rows rowid ≡ Some p → length p.row.values ≡ length table.schema.columns
row_valued table rowid p placed found =
    let all = sym (all_rows (λ (q : PlacedRow). q.row) (is_valid_row table.schema.columns) table.rows) ∙ placed.valid.values in
    valid_length table.schema.columns p.row.rowid p.row.values (found_all (λ (q : PlacedRow). int_eq q.row.rowid rowid) (λ (q : PlacedRow). is_valid_row table.schema.columns q.row) table.rows p all found)
