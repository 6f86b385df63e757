use Rattle.std.proofs.Common.{◌<◌, length, set, slice_get, ap, ap₂, sym, ◌∙◌, subst, refl, arith}
use Rattle.row_chunks.specs.Cells.{is_cell_value, takes_value}
use Rattle.row_chunks.specs.RowSlots.{slot_at, with_slot, with_cell}
use Rattle.row_chunks.specs.inner.CellColumns.{column_with}
use Rattle.row_chunks.proofs.CellLaws.{kind_within, kind_takes}
use Rattle.row_chunks.proofs.ColumnLaws.{keeps-itself, kept_more}
use Rattle.row_chunks.proofs.ChunkLaws.{column_there, chunk_cell_set}
use Rattle.row_chunks.proofs.FitLaws.{fits_cell}
use Rattle.row_chunks.proofs.WholeLaws.{changed_whole, content_fits}
use Rattle.row_chunks.proofs.row_chunk.RowChunk.set_cell.Goals as goal

pub put-requires-clause-slot : goal.put-requires-clause-slot
put-requires-clause-slot c =
    let within = kind_within (λ kind. takes_value kind c.args.value.now) refl c.args.self.now.kinds c.args.index c.requires.value in
    subst (λ column. c.args.slot < length column.cells) (sym c.index_mut.ensures.value) (
    column_there c.args.slot c.from.result c.self.inside.columns.items c.index_mut.result.now c.self.inside.slots c.args.self.now c.self.invariant.0 (omega (arith, c.from.ensures, within)) c.self.view_is c.requires.used)

pub put-requires-clause-value : goal.put-requires-clause-value
put-requires-clause-value c =
    let columns = c.self.inside.columns.items in
    let v = c.args.value.now in
    let here = ap₂ (λ kinds i. takes_value (slice_get kinds i) v) (ap (λ chunk. chunk.kinds) c.self.view_is) c.from.ensures ∙ c.requires.value in
    ap (λ column. is_cell_value column.kind v) c.index_mut.ensures.value ∙ kind_takes (λ kind. takes_value kind v) refl columns c.from.result c.index_mut.result.now here

pub invariant_of-self-2 : goal.invariant_of-self-2
invariant_of-self-2 c =
    let slot = c.args.slot in
    let v = c.args.value.now in
    let columns = c.self.inside.columns.items in
    let slots = c.self.inside.slots in
    let chunk = c.args.self.now in
    let d = c.index_mut.result.now in
    let is = c.in_ok-put.ensures {u = tt} ∙ ap (column_with slot v) c.index_mut.ensures.value in
    let within = kind_within (λ kind. takes_value kind v) refl chunk.kinds c.args.index c.requires.value in
    let there = column_there slot c.from.result columns d slots chunk c.self.invariant.0 (omega (arith, c.from.ensures, within)) c.self.view_is c.requires.used in
    let after = set columns c.from.result c.put.new.self in
    changed_whole slot columns after slots slots chunk (kept_more slot c.from.result v columns columns d c.put.new.self is (keeps-itself slot columns)) c.self.view_is c.self.invariant (with_cell c.from.result v (slot_at chunk slot))
    (chunk_cell_set slot c.from.result v columns d c.put.new.self slots chunk there c.self.view_is is)
    (fits_cell chunk.kinds c.from.result v (slot_at chunk slot) (content_fits slot columns slots chunk c.self.view_is c.self.invariant) (ap (λ i. takes_value (slice_get chunk.kinds i) v) c.from.ensures ∙ c.requires.value))

pub returns : goal.returns
returns c =
    let columns = c.self.inside.columns.items in
    let d = c.index_mut.result.now in
    let is = c.in_ok-put.ensures {u = tt} ∙ ap (column_with c.args.slot c.args.value.now) c.index_mut.ensures.value in
    let within = kind_within (λ kind. takes_value kind c.args.value.now) refl c.args.self.now.kinds c.args.index c.requires.value in
    let there = column_there c.args.slot c.from.result columns d c.self.inside.slots c.args.self.now c.self.invariant.0 (omega (arith, c.from.ensures, within)) c.self.view_is c.requires.used in
    chunk_cell_set c.args.slot c.from.result c.args.value.now columns d c.put.new.self c.self.inside.slots c.args.self.now there c.self.view_is is
    ∙ ap (λ i. with_slot c.args.slot (with_cell i c.args.value.now (slot_at c.args.self.now c.args.slot)) c.args.self.now) c.from.ensures
