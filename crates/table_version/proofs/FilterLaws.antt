-- What a filter of cells says of the rows of a table.
use Rattle.std.proofs.Common.{◌≡◌, ℕ, zero, suc, ◌-◌, ◌≤◌, Bool, true, false, List, ◌∙◌, refl, sym, ap, arith, Option, Some, None}
use Rattle.std.specs.Prelude.{◌&&◌, ◌||◌, slice_index_or}
use Rattle.std.specs.Option.{option_map}
use Rattle.std.proofs.lemmas.Bool.{and_parts}
use Rattle.vec_base.specs.declared.value.Value.TheVariants.{Null}
use Rattle.row_chunks.specs.Cells.{can_filter, has_members, is_cell, takes_test}
use Rattle.row_chunks.specs.RowSlots.{RowSlots, UsedRow, slot_at}
use Rattle.row_model.specs.Groups.{before_in, kind_in}
use Rattle.row_model.specs.Schemas.{is_auxiliary, is_metadata}
use Rattle.row_model.specs.Values.{is_of_kind, passes}
use Rattle.row_model.specs.declared.schema.Column.{Column}
use Rattle.row_model.specs.declared.schema.Kind.{Kind}
use Rattle.row_model.specs.declared.schema.Kind.TheVariants.{IntKey, TextKey, Int8Vector, BitVector, IntPartition, TextPartition, IntMeta, TextMeta, BoolMeta, IntAux, TextAux, BlobAux}
use Rattle.row_model.specs.declared.statement.Test.{Test}
use Rattle.row_model.specs.declared.statement.Test.TheVariants.{Compare, Member, Match}
use Rattle.row_store.specs.Shown.{held_of}
use Rattle.row_store.specs.StoredRows.{StoredRow, row_at as stored_at}
use Rattle.shadow_records.specs.PlacedTables.{PlacedRow, row_at, value_in}
use Rattle.table_version.specs.Viewed.{kind_numbered}
use Rattle.table_version.specs.inner.StoredTables.{placed, placed_rows}
use Rattle.table_version.proofs.StoredLaws.{placed-at}
use Rattle.table_version.proofs.ViewLaws.{cell_there}

-- the column that is tested
pub record IsTested (columns : List Column) (column : ℕ) (test : Test) : Type 0 where
  pub kind : Kind
  pub low : 1 ≤ column
  pub there : kind_in columns (column - 1) ≡ Some kind
  pub cell : is_cell kind ≡ true
  pub taken : can_filter kind test ≡ true

less_one : (n : ℕ) → suc n - 1 ≡ n
less_one n = omega arith

members_cell : (kind : Kind) → has_members kind ≡ true → is_cell kind ≡ true
members_cell IntKey h = absurd cc
members_cell TextKey h = absurd cc
members_cell (Int8Vector width metric) h = absurd cc
members_cell (BitVector width) h = absurd cc
members_cell IntPartition h = absurd cc
members_cell TextPartition h = absurd cc
members_cell IntMeta h = refl
members_cell TextMeta h = refl
members_cell BoolMeta h = absurd cc
members_cell IntAux h = absurd cc
members_cell TextAux h = absurd cc
members_cell BlobAux h = absurd cc

metadata_cell : (b c : Bool) → b ≡ true → (b || c) ≡ true
metadata_cell true c h = refl
metadata_cell false c h = absurd cc

filter_cell : (kind : Kind) (test : Test) → can_filter kind test ≡ true → is_cell kind ≡ true
filter_cell kind (Compare op constant) h = metadata_cell (is_metadata kind) (is_auxiliary kind) (and_parts (is_metadata kind) (is_of_kind kind constant) h).0
filter_cell kind (Member constants) h = members_cell kind h
filter_cell kind (Match query) h = absurd cc

pub tested : (columns : List Column) (column : ℕ) (test : Test) → takes_test (kind_numbered columns column) test ≡ true → IsTested columns column test
tested columns zero test h = absurd cc
tested columns (suc place) test h = by_kind (kind_in columns place) refl h where
  by_kind : (o : Option Kind) → kind_in columns place ≡ o → takes_test o test ≡ true → IsTested columns (suc place) test
  by_kind None e g = absurd cc
  by_kind (Some kind) e g = record { kind = kind; low = omega arith; there = ap (kind_in columns) (less_one place) ∙ e; cell = filter_cell kind test g; taken = g }

-- the row at a place is stored there
pub record IsStoredAt (columns : List Column) (rows : List StoredRow) (c s : ℕ) (p : PlacedRow) : Type 0 where
  pub row : StoredRow
  pub there : stored_at rows c s ≡ Some row
  pub is : placed columns row ≡ p

pub stored_there : (columns : List Column) (rows : List StoredRow) (c s : ℕ) (p : PlacedRow) → row_at (placed_rows columns rows) c s ≡ Some p → IsStoredAt columns rows c s p
stored_there columns rows c s p is = by_found (stored_at rows c s) refl (sym (placed-at columns rows c s) ∙ is) where
  by_found : (o : Option StoredRow) → stored_at rows c s ≡ o → option_map (placed columns) o ≡ Some p → IsStoredAt columns rows c s p
  by_found None e h = absurd cc
  by_found (Some row) e h = record { row = row; there = e; is = cc }

pub passed_there : (columns : List Column) (rows : List StoredRow) (chunk : RowSlots) (c s column index : ℕ) (test : Test) (p : PlacedRow) (old new : Bool) → (at : IsTested columns column test) →
    index ≡ before_in is_cell columns (column - 1) → slot_at chunk s ≡ option_map held_of (stored_at rows c s) → row_at (placed_rows columns rows) c s ≡ Some p →
    ((used : UsedRow) → slot_at chunk s ≡ Some used → new ≡ (old && passes test (slice_index_or used.cells index Null))) → new ≡ (old && passes test (value_in (column - 1) p))
passed_there columns rows chunk c s column index test p old new at same slot there passed =
    let found = stored_there columns rows c s p there in
    let row = found.row in
    passed (held_of row) (slot ∙ ap (λ (o : Option StoredRow). option_map held_of o) found.there)
    ∙ ap (λ v. old && passes test v) (ap (λ n. slice_index_or row.cells n Null) same ∙ cell_there columns row (column - 1) at.kind at.there at.cell)
    ∙ ap (λ (q : PlacedRow). old && passes test (value_in (column - 1) q)) found.is
