-- What readers of a store tell of the table.
use Rattle.std.proofs.Common.{◌≡◌, ℕ, suc, ℤ, ◌<◌, true, List, [], ◌∷◌, ◌∙◌, refl, sym, ap, length, Option, Some, None}
use Rattle.std.specs.Prelude.{◌==◌, find, is_some, MatchOption}
use Rattle.std.specs.List.{AllByRecursion}
use Rattle.std.specs.Option.{option_map}
use Rattle.chunk_slots.specs.Slots.{slot_at as plain_at}
use Rattle.row_chunks.specs.RowSlots.{RowSlots, plain_slots, slot_at, vectors_alone}
use Rattle.row_model.specs.declared.schema.Column.{Column}
use Rattle.row_store.specs.Shown.{held_of}
use Rattle.row_store.specs.StoredRows.{StoredRow, lies_at, rowid_of, row_at as stored_at, first_in as first_stored, row_with_id as stored_with_id, next_row as next_stored}
use Rattle.shadow_records.specs.PlacedTables.{first_in, row_at}
use Rattle.table_version.specs.Inserting.{partition_in}
use Rattle.table_version.specs.Versions.{next_row, row_with_id, rowid_in, slot_of_row}
use Rattle.table_version.specs.inner.StoredTables.{placed, placed_rows, GivesAgain}
use Rattle.table_version.proofs.StoredLaws.{found-one, placed-at, placed-first, placed-next, placed-with_id, same_partition, same_rowid}
use Rattle.table_version.proofs.ViewLaws.{plain-slot}

pub length_placed : (columns : List Column) (rows : List StoredRow) → length (placed_rows columns rows) ≡ length rows
length_placed columns [] = refl
length_placed columns (s ∷ ss) = ap suc (length_placed columns ss)

pub next_rowid : (columns : List Column) (rows : List StoredRow) (after : Option ℤ) → option_map rowid_of (next_stored after rows) ≡ option_map rowid_in (next_row after (placed_rows columns rows))
next_rowid columns rows after = same_rowid columns (next_stored after rows) ∙ ap (λ o. option_map rowid_in o) (sym (placed-next columns rows after))

pub rowid_of_id : (columns : List Column) (rows : List StoredRow) (id : List ℕ) → AllByRecursion (GivesAgain columns) rows →
    option_map rowid_of (stored_with_id id rows) ≡ option_map rowid_in (row_with_id columns id (placed_rows columns rows))
rowid_of_id columns rows id again = same_rowid columns (stored_with_id id rows) ∙ ap (λ o. option_map rowid_in o) (sym (placed-with_id columns rows id again))

pub partition_of_first : (columns : List Column) (rows : List StoredRow) (c : ℕ) → AllByRecursion (GivesAgain columns) rows →
    option_map (λ r. r.partition) (first_stored rows c) ≡ option_map (partition_in columns) (first_in (placed_rows columns rows) c)
partition_of_first columns rows c again = same_partition columns (λ row. c == row.chunk) rows again ∙ ap (λ o. option_map (partition_in columns) o) (sym (placed-first columns rows c))

pub held_in_slot : (columns : List Column) (rows : List StoredRow) (c s : ℕ) → AllByRecursion (GivesAgain columns) rows →
    option_map vectors_alone (option_map held_of (stored_at rows c s)) ≡ option_map slot_of_row (row_at (placed_rows columns rows) c s)
held_in_slot columns rows c s again = by_found (stored_at rows c s) refl ∙ ap (λ o. option_map slot_of_row o) (sym (placed-at columns rows c s)) where
  by_found : (o : Option StoredRow) → find (lies_at c s) rows ≡ o → option_map vectors_alone (option_map held_of o) ≡ option_map slot_of_row (option_map (placed columns) o)
  by_found None e = refl
  by_found (Some x) e =
      let same = (found-one (GivesAgain columns) (lies_at c s) rows x again e).0 in
      ap (λ (r : StoredRow). Some (vectors_alone (held_of r))) (sym same)

pub there_first : (columns : List Column) (rows : List StoredRow) (c : ℕ) → is_some (first_stored rows c) ≡ is_some (first_in (placed_rows columns rows) c)
there_first columns rows c = same_some columns (first_stored rows c) ∙ ap is_some (sym (placed-first columns rows c)) where
  same_some : (columns : List Column) (o : Option StoredRow) → is_some o ≡ is_some (option_map (placed columns) o)
  same_some columns None = refl
  same_some columns (Some x) = refl

pub none_first : (columns : List Column) (rows : List StoredRow) (c : ℕ) → first_stored rows c ≡ None → first_in (placed_rows columns rows) c ≡ None
none_first columns rows c none = placed-first columns rows c ∙ ap (λ o. option_map (placed columns) o) none

pub next_after : (columns : List Column) (rows : List StoredRow) (after : ℕ) (result : Option ℕ) →
    MatchOption result
    ((d : ℕ) → after < d → first_stored rows d ≡ None)
    (λ c. (after < c) × (is_some (first_stored rows c) ≡ true) × ((d : ℕ) → after < d → d < c → first_stored rows d ≡ None)) →
    MatchOption result
    ((d : ℕ) → after < d → first_in (placed_rows columns rows) d ≡ None)
    (λ c. (after < c) × (is_some (first_in (placed_rows columns rows) c) ≡ true) × ((d : ℕ) → after < d → d < c → first_in (placed_rows columns rows) d ≡ None))
next_after columns rows after None none = λ d low. none_first columns rows d (none d low)
next_after columns rows after (Some c) is = (is.0, sym (there_first columns rows c) ∙ is.1, λ d low high. none_first columns rows d (is.2 d low high))

pub held_all : (columns : List Column) (rows : List StoredRow) (c s : ℕ) (chunk : RowSlots) → AllByRecursion (GivesAgain columns) rows →
    slot_at chunk s ≡ option_map held_of (stored_at rows c s) → plain_at (plain_slots chunk) s ≡ option_map slot_of_row (row_at (placed_rows columns rows) c s)
held_all columns rows c s chunk again is = plain-slot chunk s ∙ ap (λ o. option_map vectors_alone o) is ∙ held_in_slot columns rows c s again
