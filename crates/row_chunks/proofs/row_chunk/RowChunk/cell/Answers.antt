use Rattle.std.proofs.Common.{◌<◌, length, get_or, ap, sym, ◌∙◌, subst, arith}
use Rattle.vec_base.specs.declared.value.Value.TheVariants.{Null}
use Rattle.row_chunks.specs.RowSlots.{cell_at}
use Rattle.row_chunks.proofs.ChunkLaws.{column_there, cell_seen}
use Rattle.row_chunks.proofs.row_chunk.RowChunk.cell.Goals as goal

pub get-requires : goal.get-requires
get-requires c =
    subst (λ column. c.args.slot < length column.cells) (sym c.index.ensures) (
    column_there c.args.slot c.from.result c.self.inside.columns.items c.index.result.now c.self.inside.slots c.args.self.now c.self.invariant.0 (omega (arith, c.from.ensures, c.requires.index)) c.self.view_is c.requires.used)

pub returns : goal.returns
returns c =
    c.get.ensures
    ∙ ap (λ column. get_or column.cells c.args.slot Null) c.index.ensures
    ∙ cell_seen c.args.slot c.from.result c.self.inside.columns.items c.index.result.now c.self.inside.slots c.args.self.now (omega (arith, c.from.ensures, c.requires.index)) c.self.view_is c.requires.used
    ∙ ap (cell_at c.args.self.now c.args.slot) c.from.ensures
