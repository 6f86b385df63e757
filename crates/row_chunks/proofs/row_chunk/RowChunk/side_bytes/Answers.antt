use Rattle.std.proofs.Common.{◌≡◌, ◌∙◌, ◌<◌, ◌^◌, ℕ, List, length, sym, ap, subst}
use Rattle.std.specs.Prelude.{sum_by}
use Rattle.vec_base.specs.declared.value.Value.{Value}
use Rattle.row_model.specs.Values.{side_bytes}
use Rattle.row_chunks.specs.inner.CellColumns.{CellList, cells_at, HaveSlot}
use Rattle.row_chunks.proofs.ChunkLaws.{cells_seen, have_slot, used_slot_within}
use Rattle.row_chunks.proofs.row_chunk.RowChunk.side_bytes.Goals as goal

pub cell_bytes-requires-clause-slot : goal.cell_bytes-requires-clause-slot
cell_bytes-requires-clause-slot c =
    let columns = c.self.inside.columns.items in
    let slots = c.self.inside.slots in
    let within = used_slot_within columns slots c.args.self.now c.args.slot c.self.view_is c.requires.used in
    subst (λ (xs : List CellList). HaveSlot c.args.slot xs) (sym c.as_slice.ensures.value) (have_slot (length slots.slots) c.args.slot columns c.self.invariant.0 within)

pub cell_bytes-requires-clause-short : goal.cell_bytes-requires-clause-short
cell_bytes-requires-clause-short c =
    let columns = c.self.inside.columns.items in
    let seen = cells_seen c.args.slot columns c.self.inside.slots c.args.self.now c.self.view_is c.requires.used in
    subst (λ (xs : List CellList). sum_by side_bytes (cells_at xs c.args.slot) < 2 ^ 64) (sym c.as_slice.ensures.value)
    (subst (λ (vs : List Value). sum_by side_bytes vs < 2 ^ 64) seen c.requires.short)

pub returns : goal.returns
returns c =
    let columns = c.self.inside.columns.items in
    let seen = cells_seen c.args.slot columns c.self.inside.slots c.args.self.now c.self.view_is c.requires.used in
    c.cell_bytes.ensures ∙ ap (λ (xs : List CellList). sum_by side_bytes (cells_at xs c.args.slot)) c.as_slice.ensures.value ∙ ap (λ (vs : List Value). sum_by side_bytes vs) (sym seen)
