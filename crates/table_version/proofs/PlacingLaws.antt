-- A row that takes a named place: whether it can, by what is stored, and that a sound store stays one.
use Rattle.std.proofs.Common.{◌≡◌, ℕ, ℤ, ◌+◌, ◌<◌, ◌^◌, Bool, true, false, cond, List, [], ◌∷◌, ◌∙◌, refl, sym, ap, subst, arith, length, map, Option, Some, None}
use Rattle.std.specs.Prelude.{◌==◌, ◌&&◌, if◌then◌else◌, int_le, int_lt, is_some, find, nat_lt, sum_by, FitsSigned}
use Rattle.std.specs.Int.{w64}
use Rattle.std.specs.List.{AllByRecursion}
use Rattle.std.specs.Option.{option_map}
use Rattle.std.proofs.lemmas.Bool.{and_parts, and_from, lt-ltb, ltb-true}
use Rattle.std.proofs.lemmas.Int.{ints}
use Rattle.vec_base.specs.declared.value.Value.{Value}
use Rattle.chunk_slots.specs.Slots.{vectors_of}
use Rattle.row_chunks.specs.Cells.{are_cell_values, cells_of}
use Rattle.row_model.specs.Change.{larger, same_id}
use Rattle.row_model.specs.RepresentableStatements.{AreRepresentable}
use Rattle.row_model.specs.Schemas.{count_of, is_key, IsValidSchema}
use Rattle.row_model.specs.Values.{side_bytes}
use Rattle.row_model.specs.declared.schema.Column.{Column}
use Rattle.row_model.specs.declared.schema.Schema.{Schema}
use Rattle.row_model.proofs.SchemaLaws.{faultless}
use Rattle.row_store.specs.StoredRows.{StoredRow, first_in as first_stored, row_at as stored_at, row_with_id as stored_with_id, with_row}
use Rattle.row_store.specs.Touches.{StoreState, HasSameShape}
use Rattle.row_store.specs.declared.place.RowPlace.{RowPlace}
use Rattle.shadow_records.specs.PlacedTables.{PlacedRow, PlacedTable, IsPlaced, first_in, partition_of, plain_rows}
use Rattle.table_version.specs.Inserting.{partition_in}
use Rattle.table_version.specs.Kept.{id_in}
use Rattle.table_version.specs.PlacedRows.{table_with, with_placed}
use Rattle.table_version.specs.Placing.{FitsBeside, row_placed}
use Rattle.table_version.specs.inner.Refusing.{taken_text, twice}
use Rattle.table_version.specs.inner.Room.{HasRoom}
use Rattle.table_version.specs.inner.StoredTables.{placed, placed_rows, stored, table_from, GivesAgain, IsSound}
use Rattle.table_version.proofs.ByteLaws.{row-bytes}
use Rattle.table_version.proofs.InsertLaws.{has_rowid-stored, none_twice, taken_id-stored}
use Rattle.table_version.proofs.PlacedLaws.{IsPlacedNew, apart-from, alike-from, placed-with as table-with}
use Rattle.table_version.proofs.ReaderLaws.{length_placed}
use Rattle.table_version.proofs.SoundLaws.{sides_put}
use Rattle.table_version.proofs.StoredLaws.{all-with, placed-at, placed-first, placed-of, placed-with, placed-with_id, same_partition}
use Rattle.table_version.proofs.WeavingLaws.{cells-fit, widths-fit, woven-back}

few_keys : (schema : Schema) → IsValidSchema schema → nat_lt 1 (count_of is_key schema.columns) ≡ false
few_keys schema valid = (faultless schema valid.rules).keys

none_map : {A B : Type 0} (f : A → B) (o : Option A) → option_map f o ≡ None → o ≡ None
none_map f None is = refl
none_map f (Some x) is = absurd cc

larger-top : (top i : ℤ) → int_le i top ≡ true → larger top i ≡ top
larger-top top i le = by_test (int_lt top i) refl where
  by_test : (b : Bool) → int_lt top i ≡ b → (if b then i else top) ≡ top
  by_test false is = refl
  by_test true is = let never : int_lt top i ≡ false = grind (arith, ints) in absurd cc

-- no row is at a place of a chunk without rows
pub no_row_at : (rows : List StoredRow) (c s : ℕ) → is_some (first_stored rows c) ≡ false → stored_at rows c s ≡ None
no_row_at [] c s none = refl
no_row_at (row ∷ rows) c s none = by_chunk (c == row.chunk) none (λ none. no_row_at rows c s none) where
  by_chunk : (b : Bool) → is_some {T = StoredRow} (cond b (Some row) (first_stored rows c)) ≡ false → (is_some (first_stored rows c) ≡ false → stored_at rows c s ≡ None) → cond (b && s == row.slot) (Some row) (stored_at rows c s) ≡ None
  by_chunk true never rest = absurd cc
  by_chunk false none rest = rest none

-- how a row is stored, part by part
pub stored-is : (columns : List Column) (place : RowPlace) (values : List Value) {id : Option (List ℕ)} {partition cells : List Value} {vectors : List (List ℕ)} →
    id ≡ id_in columns values → partition ≡ partition_of columns values → vectors ≡ vectors_of values → cells ≡ cells_of columns values →
    record { rowid = place.rowid; chunk = place.chunk; slot = place.slot; id = id; partition = partition; vectors = vectors; cells = cells } ≡ stored columns (row_placed place values)
stored-is columns place values a b c d = λ i. record { rowid = place.rowid; chunk = place.chunk; slot = place.slot; id = a i; partition = b i; vectors = c i; cells = d i }

module _ (name : List ℕ) (schema : Schema) (top : ℤ) (store : StoreState) (sides : ℕ) (place : RowPlace) (values : List Value)
    (sound : IsSound name schema top store sides) where
  abbrev table : PlacedTable
  table = table_from name schema top store.rows

  abbrev columns : List Column
  columns = schema.columns

  abbrev new : PlacedRow
  new = row_placed place values

  -- ---- the two tests agree

  pub room-fits : HasRoom schema top store.rows place (partition_of schema.columns values) values → FitsBeside table new
  room-fits room = record {
    valid = room.valid;
    place = and_from _ _ (lt-ltb 0 place.chunk room.positive) (and_from _ _ (lt-ltb place.chunk (2 ^ 32) room.narrow) (lt-ltb place.slot schema.chunk_size room.within));
    topped = room.topped;
    few = let same = length_placed columns store.rows in let few = room.few in omega (arith, few, same);
    fresh = placed-of columns store.rows place.rowid ∙ ap (option_map (placed columns)) room.fresh;
    own_id = λ text is. placed-with_id columns store.rows text sound.again ∙ ap (option_map (placed columns)) (room.own_id text is);
    free = placed-at columns store.rows place.chunk place.slot ∙ ap (option_map (placed columns)) room.free;
    alike = alike;
  } where
    alike : (first : PlacedRow) → first_in table.rows place.chunk ≡ Some first → partition_in columns first ≡ partition_of columns values
    alike first is = by_first (first_stored store.rows place.chunk) refl where
      values_of : option_map (λ (r : StoredRow). r.partition) (first_stored store.rows place.chunk) ≡ Some (partition_in columns first)
      values_of = same_partition columns (λ row. place.chunk == row.chunk) store.rows sound.again ∙ ap (option_map (partition_in columns)) (sym (placed-first columns store.rows place.chunk) ∙ is)

      by_first : (o : Option StoredRow) → first_stored store.rows place.chunk ≡ o → partition_in columns first ≡ partition_of columns values
      by_first None none = let never : None ≡ Some (partition_in columns first) = sym (ap (option_map (λ (r : StoredRow). r.partition)) none) ∙ values_of in absurd cc
      by_first (Some s) some =
          let same : Some s.partition ≡ Some (partition_in columns first) = sym (ap (option_map (λ (r : StoredRow). r.partition)) some) ∙ values_of in
          let one : s.partition ≡ partition_in columns first = cc in
          sym one ∙ room.alike s some

  pub fits-room : FitsBeside table new → HasRoom schema top store.rows place (partition_of schema.columns values) values
  fits-room fits = record {
    valid = fits.valid;
    positive = ltb-true 0 place.chunk (and_parts _ _ fits.place).0;
    narrow = ltb-true place.chunk (2 ^ 32) (and_parts _ _ (and_parts _ _ fits.place).1).0;
    within = ltb-true place.slot schema.chunk_size (and_parts _ _ (and_parts _ _ fits.place).1).1;
    topped = fits.topped;
    few = let same = length_placed columns store.rows in let few = fits.few in omega (arith, few, same);
    fresh = none_map (placed columns) _ (sym (placed-of columns store.rows place.rowid) ∙ fits.fresh);
    own_id = λ text is. none_map (placed columns) _ (sym (placed-with_id columns store.rows text sound.again) ∙ fits.own_id text is);
    free = none_map (placed columns) _ (sym (placed-at columns store.rows place.chunk place.slot) ∙ fits.free);
    alike = λ s is. alike s is;
  } where
    alike : (s : StoredRow) → first_stored store.rows place.chunk ≡ Some s → s.partition ≡ partition_of columns values
    alike s is =
        let there = placed-first columns store.rows place.chunk ∙ ap (option_map (placed columns)) is in
        let both : Some s.partition ≡ Some (partition_in columns (placed columns s)) =
        sym (ap (option_map (λ (r : StoredRow). r.partition)) is) ∙ same_partition columns (λ row. place.chunk == row.chunk) store.rows sound.again ∙ ap (option_map (partition_in columns)) (ap (option_map (placed columns)) is) in
        let one : s.partition ≡ partition_in columns (placed columns s) = cc in
        one ∙ fits.alike (placed columns s) there

  -- ---- the row that came

  pub placed-new : FitsBeside table new → FitsSigned w64 place.rowid → AreRepresentable values → IsPlacedNew table new
  placed-new fits number held =
      let room = fits-room fits in
      record {
        fits = fits.valid;
        representable = record { rowid = number; values = held };
        rowid = has_rowid-stored columns place.rowid store.rows ∙ ap is_some room.fresh;
        id = none_twice (find (λ r. same_id columns values r.values) (plain_rows table.rows)) (taken_id-stored columns place.rowid values store.rows (few_keys schema sound.placed.valid.schema) fits.valid sound.placed.valid.values sound.again ∙ no_text (id_in columns values) refl room.own_id);
        few = let few = fits.few in omega (arith, few);
        place = fits.place;
        apart = apart-from new table.rows fits.free;
        alike = alike-from columns new table.rows sound.placed.alike (λ first is. sym (fits.alike first is));
      }
    where
      no_text : (id : Option (List ℕ)) → id_in columns values ≡ id → ((text : List ℕ) → id_in columns values ≡ Some text → stored_with_id text store.rows ≡ None) → taken_text (id_in columns values) store.rows ≡ []
      no_text None is own = ap (λ o. taken_text o store.rows) is
      no_text (Some text) is own = ap (λ o. taken_text o store.rows) is ∙ ap (λ (o : Option StoredRow). twice (option_map (λ s. s.rowid) o)) (own text is)

  again_new : FitsBeside table new → placed columns (stored columns new) ≡ new
  again_new fits = ap (row_placed place) (woven-back columns place.rowid values (few_keys schema sound.placed.valid.schema) fits.valid)

  pub placed-table : (rows : List StoredRow) → FitsBeside table new → rows ≡ with_row (stored schema.columns (row_placed place values)) store.rows → table_from name schema top rows ≡ table_with table new
  placed-table rows fits is =
      ap (λ ps. table_of ps top) (ap (placed_rows columns) is ∙ placed-with columns (stored columns new) store.rows ∙ ap (λ p. with_placed p table.rows) (again_new fits))
      ∙ ap (table_of (with_placed new table.rows)) (sym (larger-top top place.rowid fits.topped))
    where
      table_of : List PlacedRow → ℤ → PlacedTable
      table_of ps t = record { name = name; schema = schema; top = t; rows = ps }

  pub sound-placed : (after : StoreState) → FitsBeside table new → FitsSigned w64 place.rowid → AreRepresentable values → after.rows ≡ with_row (stored schema.columns (row_placed place values)) store.rows → HasSameShape store after →
      IsSound name schema top after (sides + sum_by side_bytes values)
  sound-placed after fits number held is shape =
      let table_is = placed-table after.rows fits is in
      record {
        placed = subst IsPlaced (sym table_is) (table-with table new sound.placed (placed-new fits number held));
        size = shape.size ∙ sound.size;
        widths = shape.widths ∙ sound.widths;
        kinds = shape.kinds ∙ sound.kinds;
        again = subst (AllByRecursion (GivesAgain columns)) (sym is) (all-with (GivesAgain columns) (stored columns new) store.rows (ap (stored columns) (again_new fits)) sound.again);
        sides = sides_put table (table_from name schema top after.rows) new sides (sum_by side_bytes values) table_is sound.sides refl;
      }

  -- ---- what the store asks for

  pub placed-widths : FitsBeside table new → map length (vectors_of values) ≡ store.widths
  placed-widths fits = widths-fit columns place.rowid values fits.valid ∙ sym sound.widths

  pub placed-cells : FitsBeside table new → are_cell_values store.kinds (cells_of schema.columns values) ≡ true
  placed-cells fits = ap (λ kinds. are_cell_values kinds (cells_of columns values)) sound.kinds ∙ cells-fit columns place.rowid values fits.valid

  pub placed-short : FitsBeside table new → sum_by side_bytes values < 2 ^ 64
  placed-short fits = let few = (row-bytes schema new.row sound.placed.valid.schema fits.valid).1 in omega (arith, few)
