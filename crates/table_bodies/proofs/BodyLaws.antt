-- Bodies by their keys.
use Rattle.std.proofs.Common.{◌≡◌, ℕ, ◌<◌, ◌^◌, ℤ, pos, negsuc, int_le, List, true, false, ◌&&◌, ◌==◌, nat_lt, refl, sym, ap, ◌∙◌, subst, arith}
use Rattle.std.specs.Option.{option_map}
use Rattle.std.specs.declared.option.Option.{Option}
use Rattle.std.specs.declared.option.Option.TheVariants.{Some, None}
use Rattle.std.proofs.lemmas.Bool.{and_parts, eqb-true, ltb-true}
use Rattle.std.proofs.lemmas.Int.{ints}
use Rattle.vec_base.specs.declared.value.Value.{Value}
use Rattle.record_bodies.proofs.FindLaws.{found_all, found_passes}
use Rattle.row_model.specs.Groups.{kind_in}
use Rattle.row_model.specs.Schemas.{has_role, is_same_role, is_vector, role_of}
use Rattle.row_model.specs.declared.schema.Kind.{Kind}
use Rattle.row_model.specs.declared.schema.Role.{Role}
use Rattle.row_model.specs.declared.schema.Role.TheVariants.{Key, Vector, Partition, Metadata, Auxiliary}
use Rattle.shadow_records.specs.Cells.{laid}
use Rattle.shadow_records.specs.PlacedTables.{IsPlaced, PlacedRow, PlacedTable, first_in, is_place, value_in}
use Rattle.shadow_records.specs.Records.{ColumnAt, cells_body, chunk_body, column_at, nth_column, of_chunk, of_first, value_body}
use Rattle.table_bodies.specs.Units.{IsUnitRecord, cells_record, seen, unit, unit_count}
use Rattle.table_bodies.specs.declared.column_place.ColumnPlace.{ColumnPlace}
use Rattle.table_bodies.specs.declared.unit_record.UnitRecord.{UnitRecord}
use Rattle.table_bodies.specs.declared.unit_record.UnitRecord.TheVariants.{Used, Rowids}
use Rattle.table_bodies.specs.inner.Parts.{HasUnits, StandsAt}
use Rattle.table_bodies.proofs.ColumnLaws.{column_stands, columns_few}
use Rattle.table_bodies.proofs.UnitLaws.{cells_units, found_cells, units_of_cells}

-- ---- chunks

far : (chunk : ℕ) → (int_le (pos 0) (pos chunk) ≡ true → int_le (pos chunk) (pos 4294967295) ≡ true → ⊥) → 4294967295 < chunk
far chunk past = grind (arith, ints)

narrow : (table : PlacedTable) (chunk : ℕ) (first : PlacedRow) → IsPlaced table → first_in table.rows chunk ≡ Some first → chunk < 2 ^ 32
narrow table chunk first placed found =
    let place = found_all (λ (p : PlacedRow). p.chunk == chunk) (is_place table.schema.chunk_size) table.rows first placed.places found in
    let parts = and_parts (nat_lt first.chunk (2 ^ 32)) (nat_lt first.slot table.schema.chunk_size) (and_parts (nat_lt 0 first.chunk) (nat_lt first.chunk (2 ^ 32) && nat_lt first.slot table.schema.chunk_size) place).1 in
    let low = ltb-true first.chunk (2 ^ 32) parts.0 in
    let same = eqb-true first.chunk chunk (found_passes (λ (p : PlacedRow). p.chunk == chunk) table.rows first found) in
    omega (arith, low, same)

-- a number that four bytes can't hold is that of no chunk
pub chunk_past : (table : PlacedTable) (body : ℕ → PlacedRow → Option (List ℕ)) (a : ℤ) → IsPlaced table → (int_le (pos 0) a ≡ true → int_le a (pos 4294967295) ≡ true → ⊥) → None ≡ of_chunk table body a
chunk_past table body (pos chunk) placed past = by (first_in table.rows chunk) refl where
  by : (o : Option PlacedRow) → first_in table.rows chunk ≡ o → None ≡ of_first (body chunk) o
  by None e = refl
  by (Some first) e =
      let low = narrow table chunk first placed e in
      let high = far chunk past in
      absurd (omega (arith, low, high))
chunk_past table body (negsuc n) placed past = refl

-- the cells of the column that is found
pub cells_found : (table : PlacedTable) (chunk : ℕ) (column : ColumnPlace) (o : Option ColumnAt) → Some (seen column) ≡ o →
    option_map (λ first. laid (unit (cells_record column) table chunk) (unit_count (cells_record column) table.schema.chunk_size)) (first_in table.rows chunk)
    ≡ of_first (λ first. option_map (cells_body table chunk) o) (first_in table.rows chunk)
cells_found table chunk column o found =
    by (first_in table.rows chunk) ∙ ap (λ o. of_first (λ (first : PlacedRow). option_map (cells_body table chunk) o) (first_in table.rows chunk)) found where
      by : (first : Option PlacedRow) → option_map (λ (first : PlacedRow). laid (unit (cells_record column) table chunk) (unit_count (cells_record column) table.schema.chunk_size)) first
          ≡ of_first (λ (first : PlacedRow). option_map (cells_body table chunk) (Some (seen column))) first
      by None = refl
      by (Some first) = ap Some (sym (units_of_cells table chunk column))

-- the column of the number has a record of units
pub units_there : (table : PlacedTable) (role : Role) (column : ColumnPlace) (before : ℤ) → HasUnits role → Some (seen column) ≡ column_at (has_role role) table before → pos column.before ≡ before →
    IsUnitRecord table.schema.columns (cells_record column)
units_there table role column before has found number =
    let at : nth_column (has_role role) 0 table.schema.columns column.before ≡ Some (seen column) = ap (column_at (has_role role) table) number ∙ sym found in
    cells_units table.schema.columns column (found_cells table role column has at)

pub cells_in : (table : PlacedTable) (role : Role) (chunk : ℕ) (a b : ℤ) (column : ColumnPlace) (kept : UnitRecord) → kept ≡ cells_record column → a ≡ pos chunk → Some (seen column) ≡ column_at (has_role role) table b →
    option_map (λ first. laid (unit kept table chunk) (unit_count kept table.schema.chunk_size)) (first_in table.rows chunk)
    ≡ of_chunk table (λ chunk first. option_map (cells_body table chunk) (column_at (has_role role) table b)) a
cells_in table role chunk a b column kept is at found =
    ap (λ (kept : UnitRecord). option_map (λ (first : PlacedRow). laid (unit kept table chunk) (unit_count kept table.schema.chunk_size)) (first_in table.rows chunk)) is
    ∙ cells_found table chunk column (column_at (has_role role) table b) found
    ∙ ap (of_chunk table (λ chunk first. option_map (cells_body table chunk) (column_at (has_role role) table b))) (sym at)

units_in : (table : PlacedTable) (chunk : ℕ) (kept : UnitRecord) → option_map (λ first. laid (unit kept table chunk) (unit_count kept table.schema.chunk_size)) (first_in table.rows chunk)
    ≡ of_first (λ first. Some (laid (unit kept table chunk) (unit_count kept table.schema.chunk_size))) (first_in table.rows chunk)
units_in table chunk kept = by (first_in table.rows chunk) where
  by : (o : Option PlacedRow) → option_map (λ (first : PlacedRow). laid (unit kept table chunk) (unit_count kept table.schema.chunk_size)) o ≡ of_first (λ (first : PlacedRow). Some (laid (unit kept table chunk) (unit_count kept table.schema.chunk_size))) o
  by None = refl
  by (Some first) = refl

pub used_in : (table : PlacedTable) (chunk : ℕ) (a b : ℤ) → a ≡ pos chunk → b ≡ pos 1 → option_map (λ first. laid (unit Used table chunk) (unit_count Used table.schema.chunk_size)) (first_in table.rows chunk) ≡ of_chunk table (λ chunk. chunk_body table chunk b) a
used_in table chunk a b at is = units_in table chunk Used ∙ ap (λ b. of_chunk table (λ chunk. chunk_body table chunk b) (pos chunk)) (sym is) ∙ ap (of_chunk table (λ chunk. chunk_body table chunk b)) (sym at)

pub rowids_in : (table : PlacedTable) (chunk : ℕ) (a b : ℤ) → a ≡ pos chunk → b ≡ pos 2 → option_map (λ first. laid (unit Rowids table chunk) (unit_count Rowids table.schema.chunk_size)) (first_in table.rows chunk) ≡ of_chunk table (λ chunk. chunk_body table chunk b) a
rowids_in table chunk a b at is = units_in table chunk Rowids ∙ ap (λ b. of_chunk table (λ chunk. chunk_body table chunk b) (pos chunk)) (sym is) ∙ ap (of_chunk table (λ chunk. chunk_body table chunk b)) (sym at)

-- ---- values

other_role : (role own : Role) → is_same_role own role ≡ true → is_same_role role Vector ≡ false → is_same_role own Vector ≡ false
other_role role Key e other = refl
other_role role Partition e other = refl
other_role role Metadata e other = refl
other_role role Auxiliary e other = refl
other_role Key Vector e other = absurd cc
other_role Vector Vector e other = absurd cc
other_role Partition Vector e other = absurd cc
other_role Metadata Vector e other = absurd cc
other_role Auxiliary Vector e other = absurd cc

pub no_vector : (role : Role) (kind : Kind) → has_role role kind ≡ true → is_same_role role Vector ≡ false → is_vector kind ≡ false
no_vector role kind e other = other_role role (role_of kind) e other

-- the column of a role that is found
pub record HasRole (table : PlacedTable) (role : Role) (column : ColumnPlace) : Type 0 where
  pub stands : StandsAt table.schema.columns column
  pub has : has_role role column.kind ≡ true

pub found_role : (table : PlacedTable) (role : Role) (column : ColumnPlace) (before : ℤ) → IsPlaced table → Some (seen column) ≡ column_at (has_role role) table before → HasRole table role column
found_role table role column (pos before) placed found =
    let nth = column_stands (has_role role) 0 table.schema.columns before (seen column) (sym found) in
    let few = columns_few table placed in
    let at = nth.place in
    let within = nth.within in
    let same : nth.index ≡ column.place = omega (arith, at) in
    record { stands = record { kind = subst (λ k. kind_in table.schema.columns k ≡ Some column.kind) same nth.there; low = omega (arith, at, within, few) }; has = nth.kind }
found_role table role column (negsuc n) placed found = absurd cc

pub value_there : (body : Value → Option (List ℕ)) (p : PlacedRow) (o : Option ColumnAt) (x : Value) → Some x ≡ option_map (λ column. value_in column.place p) o → body x ≡ value_body body (Some p) o
value_there body p None x e = absurd cc
value_there body p (Some column) x e = let same : x ≡ value_in column.place p = cc in ap body same

pub none_there : (body : Value → Option (List ℕ)) (p : PlacedRow) (o : Option ColumnAt) → None ≡ option_map (λ column. value_in column.place p) o → None ≡ value_body body (Some p) o
none_there body p None e = refl
none_there body p (Some column) e = absurd cc
