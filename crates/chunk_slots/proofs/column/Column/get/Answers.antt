use Rattle.std.proofs.Common.{[], ap, sym, ◌∙◌, length, take, drop, get_or}
use Rattle.chunk_slots.proofs.BlockLaws.{block_there, slot_within, part_there, vector_part, vector_width, get_vector}
use Rattle.chunk_slots.proofs.column.Column.get.Goals as goal

pub get-requires : goal.get-requires
get-requires c = block_there c.self.inside.width c.args.slot c.block_of.result c.self.inside.blocks c.args.self.now c.self.view_is c.requires c.block_of.ensures

pub part-requires : goal.part-requires
part-requires c =
    let blocks = c.self.inside.blocks in
    let lt = block_there c.self.inside.width c.args.slot c.block_of.result blocks c.args.self.now c.self.view_is c.requires c.block_of.ensures in
    rw c.as_slice.ensures (part_there c.self.inside.width c.args.slot c.from-width.result c.start_of-start.result c.block_of.result blocks c.get.result.now
    c.from-width.ensures c.start_of-start.ensures c.block_of.ensures c.self.invariant.1 lt c.get.ensures)

pub returns-clause-vector : goal.returns-clause-vector
returns-clause-vector c =
    c.part.ensures ∙ ap (λ block. take c.from-width.result (drop c.start_of-start.result block)) c.as_slice.ensures
    ∙ vector_part c.self.inside.width c.args.slot c.from-width.result c.start_of-start.result c.block_of.result c.self.inside.blocks c.get.result.now c.args.self.now
    c.from-width.ensures c.start_of-start.ensures c.block_of.ensures c.get.ensures c.self.view_is c.requires

pub returns-clause-width : goal.returns-clause-width
returns-clause-width c =
    let w = c.self.inside.width in
    let blocks = c.self.inside.blocks in
    let within = slot_within w c.args.slot blocks c.args.self.now c.self.view_is c.requires in
    ap length (returns-clause-vector c ∙ ap (λ column. get_or column.vectors c.args.slot []) (sym c.self.view_is) ∙ get_vector w blocks c.args.slot [] within)
    ∙ vector_width w blocks c.args.slot c.self.invariant.1 within
    ∙ ap (λ column. column.width) c.self.view_is
