-- What holds of the parts of a chunk, after each change.
use Rattle.std.proofs.Common.{◌≡◌, ℕ, List, length, Option, None, Ok, Err, sym, ap, ◌∙◌, subst, length-set}
use Rattle.std.proofs.lemmas.List.{length-replicate}
use Rattle.std.specs.Bool.{if◌then◌else◌}
use Rattle.std.specs.Result.{is_ok}
use Rattle.std.specs.declared.result.Result.{Result}
use Rattle.row_model.specs.declared.schema.Kind.{Kind}
use Rattle.chunk_slots.specs.Slots.{Slots, slot_at as plain_at, with_slot as with_plain, with_vector as with_plain_vector}
use Rattle.row_chunks.specs.RowSlots.{UsedRow, RowSlots, slot_at, all_free, with_slot, with_vector, HoldCells}
use Rattle.row_chunks.specs.inner.CellColumns.{CellList, HaveSize, rows_of, KeepsOthers}
use Rattle.row_chunks.proofs.ColumnLaws.{keeps-itself}
use Rattle.row_chunks.proofs.ChunkLaws.{size_seen, size_kept, chunk_vector_set}
use Rattle.row_chunks.proofs.FitLaws.{Fits, fits_with, fits_vector, fits_free}

-- each column has a cell for each slot, and those of used slots fit
abbrev pub IsWhole : Slots → List CellList → Type 0
IsWhole slots columns = HaveSize (length slots.slots) columns × HoldCells (rows_of columns slots)

whole : (slots : Slots) (columns : List CellList) (chunk : RowSlots) → rows_of columns slots ≡ chunk → HaveSize (length chunk.slots) columns → HoldCells chunk → IsWhole slots columns
whole slots columns chunk seen sizes fits = (subst (λ n. HaveSize n columns) (size_seen columns slots chunk seen) sizes, subst HoldCells (sym seen) fits)

pub free_whole : (size : ℕ) (widths : List ℕ) (kinds : List Kind) (slots : Slots) (columns : List CellList) → rows_of columns slots ≡ all_free size widths kinds → HaveSize size columns → IsWhole slots columns
free_whole size widths kinds slots columns seen sizes =
    whole slots columns (all_free size widths kinds) seen (subst (λ n. HaveSize n columns) (sym (length-replicate size None)) sizes) (fits_free size widths kinds)

module _ (slot : ℕ) (before after : List CellList) (slots new : Slots) (chunk : RowSlots) (kept : KeepsOthers slot before after) (seen : rows_of before slots ≡ chunk) (holds : IsWhole slots before) where
  sizes : HaveSize (length chunk.slots) after
  sizes = subst (λ n. HaveSize n after) (sym (size_seen before slots chunk seen)) (size_kept slot (length slots.slots) before after holds.0 kept)

  -- another content of a slot
  pub changed_whole : (content : Option UsedRow) → rows_of after new ≡ with_slot slot content chunk → Fits chunk.kinds content → IsWhole new after
  changed_whole content is fits =
      whole new after (with_slot slot content chunk) is (subst (λ n. HaveSize n after) (sym (length-set chunk.slots slot content)) sizes)
      (fits_with slot content chunk (subst HoldCells seen holds.1) fits)

  -- what is seen is as before
  pub same_whole : rows_of after new ≡ chunk → IsWhole new after
  same_whole is = whole new after chunk is sizes (subst HoldCells seen holds.1)

-- what a slot holds fits
pub content_fits : (slot : ℕ) (columns : List CellList) (slots : Slots) (chunk : RowSlots) → rows_of columns slots ≡ chunk → IsWhole slots columns → Fits chunk.kinds (slot_at chunk slot)
content_fits slot columns slots chunk seen holds used there = subst HoldCells seen holds.1 slot used there

-- a call that put a vector, or left all as before
pub vector_whole : {T E : Type 0} (r : Result T E) (slot i : ℕ) (v : List ℕ) (columns : List CellList) (slots new : Slots) (chunk : RowSlots) → rows_of columns slots ≡ chunk → IsWhole slots columns →
    new ≡ (if is_ok r then with_plain slot (with_plain_vector i v (plain_at slots slot)) slots else slots) → IsWhole new columns
vector_whole (Ok t) slot i v columns slots new chunk seen holds made =
    changed_whole slot columns columns slots new chunk (keeps-itself slot columns) seen holds (with_vector i v (slot_at chunk slot))
    (chunk_vector_set slot i v columns slots new chunk seen made) (fits_vector chunk.kinds i v (slot_at chunk slot) (content_fits slot columns slots chunk seen holds))
vector_whole (Err e) slot i v columns slots new chunk seen holds made =
    same_whole slot columns columns slots new chunk (keeps-itself slot columns) seen holds (ap (rows_of columns) made ∙ seen)
