use Rattle.std.proofs.Common.{length, ap, sym, ◌∙◌, subst, refl, rules}
use Rattle.std.proofs.lemmas.List.{with_items_is}
use Rattle.std.proofs.lemmas.Int.{to_z-of_z}
use Rattle.std.specs.Int.{w64}
use Rattle.chunk_slots.specs.Slots.{vectors_of, used_by as plain_used, with_slot as with_plain}
use Rattle.row_chunks.specs.Cells.{cells_of}
use Rattle.row_chunks.specs.RowSlots.{with_slot, used_by}
use Rattle.row_chunks.specs.inner.CellColumns.{HaveSlot, KeepsOthers, rows_of}
use Rattle.row_chunks.proofs.ChunkLaws.{slot_within, slot_free, have_slot, chunk_placed, chunk_kept, left_by_error}
use Rattle.row_chunks.proofs.FitLaws.{fits_row}
use Rattle.row_chunks.proofs.WholeLaws.{IsWhole, changed_whole, same_whole}
use Rattle.row_chunks.proofs.row_chunk.RowChunk.place_row.Goals as goal

pub write_cells-requires-clause-slot : goal.write_cells-requires-clause-slot
write_cells-requires-clause-slot c =
    let columns = c.self.inside.columns.items in
    let slots = c.self.inside.slots in
    let lt = slot_within columns slots c.args.self.now c.args.slot c.self.view_is c.requires.slot in
    subst (HaveSlot c.args.slot) (sym c.as_mut_slice.ensures.value) (have_slot (length slots.slots) c.args.slot columns c.self.invariant.0 lt)

pub returns-in_err-write_cells : goal.returns-in_err-write_cells
returns-in_err-write_cells c =
    let before = c.self.inside.columns.items in
    let after = c.write_cells.new.cells in
    let slots = c.self.inside.slots in
    let kept = subst (λ columns. KeepsOthers c.args.slot columns after) c.as_mut_slice.ensures.value c.write_cells.ensures.kept in
    let items = with_items_is c.self.inside.columns after (search rules) in
    left_by_error c.from_residual.result _ (with_slot c.args.slot (used_by c.args.rowid (vectors_of c.args.values.now) (cells_of c.args.columns.now c.args.values.now)) c.args.self.now) c.args.self.now c.from_residual.ensures.0
    (ap (λ columns. rows_of columns slots) items ∙ chunk_kept c.args.slot before after slots slots c.args.self.now kept c.self.view_is c.requires.free refl)

pub invariant_of-self : goal.invariant_of-self
invariant_of-self c =
    let before = c.self.inside.columns.items in
    let after = c.write_cells.new.cells in
    let slots = c.self.inside.slots in
    let kept = subst (λ columns. KeepsOthers c.args.slot columns after) c.as_mut_slice.ensures.value c.write_cells.ensures.kept in
    let items = with_items_is c.self.inside.columns after (search rules) in
    subst (IsWhole slots) (sym items) (same_whole c.args.slot before after slots slots c.args.self.now kept c.self.view_is c.self.invariant
    (chunk_kept c.args.slot before after slots slots c.args.self.now kept c.self.view_is c.requires.free refl))

pub place_row-requires-clause-slot : goal.place_row-requires-clause-slot
place_row-requires-clause-slot c = slot_within c.self.inside.columns.items c.self.inside.slots c.args.self.now c.args.slot c.self.view_is c.requires.slot

pub place_row-requires-clause-free : goal.place_row-requires-clause-free
place_row-requires-clause-free c = slot_free c.self.inside.columns.items c.self.inside.slots c.args.self.now c.args.slot c.self.view_is c.requires.free

pub returns-in_err-place_row : goal.returns-in_err-place_row
returns-in_err-place_row c =
    let before = c.self.inside.columns.items in
    let after = c.write_cells.new.cells in
    let slots = c.self.inside.slots in
    let kept = subst (λ columns. KeepsOthers c.args.slot columns after) c.as_mut_slice.ensures.value c.write_cells.ensures.kept in
    let items = with_items_is c.self.inside.columns after (search rules) in
    left_by_error c.from_residual-in_err-place_row.result _ (with_slot c.args.slot (used_by c.args.rowid (vectors_of c.args.values.now) (cells_of c.args.columns.now c.args.values.now)) c.args.self.now) c.args.self.now c.from_residual-in_err-place_row.ensures.0
    (ap (λ columns. rows_of columns c.place_row.new.self) items ∙ chunk_kept c.args.slot before after slots c.place_row.new.self c.args.self.now kept c.self.view_is c.requires.free (c.in_err-place_row.ensures {u = tt}))

pub invariant_of-self-in_err-place_row : goal.invariant_of-self-in_err-place_row
invariant_of-self-in_err-place_row c =
    let before = c.self.inside.columns.items in
    let after = c.write_cells.new.cells in
    let slots = c.self.inside.slots in
    let kept = subst (λ columns. KeepsOthers c.args.slot columns after) c.as_mut_slice.ensures.value c.write_cells.ensures.kept in
    let items = with_items_is c.self.inside.columns after (search rules) in
    subst (IsWhole c.place_row.new.self) (sym items) (same_whole c.args.slot before after slots c.place_row.new.self c.args.self.now kept c.self.view_is c.self.invariant
    (chunk_kept c.args.slot before after slots c.place_row.new.self c.args.self.now kept c.self.view_is c.requires.free (c.in_err-place_row.ensures {u = tt})))

pub invariant_of-self-2 : goal.invariant_of-self-2
invariant_of-self-2 c =
    let before = c.self.inside.columns.items in
    let after = c.write_cells.new.cells in
    let slots = c.self.inside.slots in
    let vectors = vectors_of c.args.values.now in
    let cells = cells_of c.args.columns.now c.args.values.now in
    let chunk = c.args.self.now in
    let kept = subst (λ columns. KeepsOthers c.args.slot columns after) c.as_mut_slice.ensures.value c.write_cells.ensures.kept in
    let number = to_z-of_z w64 c.args.rowid c.ranges.rowid in
    let made = c.in_ok-place_row.ensures {u = tt} ∙ ap (λ rowid. with_plain c.args.slot (plain_used rowid vectors) slots) number in
    let items = with_items_is c.self.inside.columns after (search rules) in
    subst (IsWhole c.place_row.new.self) (sym items) (changed_whole c.args.slot before after slots c.place_row.new.self chunk kept c.self.view_is c.self.invariant (used_by c.args.rowid vectors cells)
    (chunk_placed c.args.slot c.args.rowid vectors cells before after slots c.place_row.new.self chunk kept c.in_ok-write_cells.ensures.row c.self.view_is made) (fits_row chunk.kinds c.args.rowid vectors cells c.requires.cells))

pub returns : goal.returns
returns c =
    let before = c.self.inside.columns.items in
    let after = c.write_cells.new.cells in
    let slots = c.self.inside.slots in
    let vectors = vectors_of c.args.values.now in
    let cells = cells_of c.args.columns.now c.args.values.now in
    let kept = subst (λ columns. KeepsOthers c.args.slot columns after) c.as_mut_slice.ensures.value c.write_cells.ensures.kept in
    let number = to_z-of_z w64 c.args.rowid c.ranges.rowid in
    let made = c.in_ok-place_row.ensures {u = tt} ∙ ap (λ rowid. with_plain c.args.slot (plain_used rowid vectors) slots) number in
    let items = with_items_is c.self.inside.columns after (search rules) in
    ap (λ columns. rows_of columns c.place_row.new.self) items
    ∙ chunk_placed c.args.slot c.args.rowid vectors cells before after slots c.place_row.new.self c.args.self.now kept c.in_ok-write_cells.ensures.row c.self.view_is made
