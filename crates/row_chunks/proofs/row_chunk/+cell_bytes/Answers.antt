use Rattle.std.proofs.Common.{rules, ◌≡◌, ◌∙◌, ◌+◌, ◌<◌, ◌^◌, List, ◌∷◌, sym, ap, subst, arith}
use Rattle.std.specs.Prelude.{sum_by, slice_index_or}
use Rattle.vec_base.specs.declared.value.Value.TheVariants.{Null}
use Rattle.row_model.specs.Values.{side_bytes}
use Rattle.row_chunks.specs.inner.CellColumns.{CellList, cells_at, HaveSlot}
use Rattle.row_chunks.proofs.BytesLaws.{bytes_step, slot_in_others}
use Rattle.row_chunks.proofs.row_chunk.+cell_bytes.Goals as goal

pub cell_bytes-requires : goal.cell_bytes-requires
cell_bytes-requires t c =
    let whole : c.args.columns.now ≡ c.in-Some.column.now ∷ c.in-Some.columns.now = search rules in
    let slot = subst (λ (xs : List CellList). HaveSlot c.args.slot xs) whole c.requires.slot in
    let short = subst (λ (xs : List CellList). sum_by side_bytes (cells_at xs c.args.slot) < 2 ^ 64) whole c.requires.short in
    let step = bytes_step c.args.slot c.in-Some.column.now c.in-Some.columns.now in
    (search rules, (slot_in_others c.args.slot c.in-Some.column.now c.in-Some.columns.now slot, omega (arith, short, step)))
