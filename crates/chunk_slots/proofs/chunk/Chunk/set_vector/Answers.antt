use Rattle.std.proofs.Common.{◌<◌, length, ap, ◌∙◌, subst}
use Rattle.chunk_slots.specs.Slots.{slot_at, with_slot, with_vector}
use Rattle.chunk_slots.specs.inner.Blocks.{column_with}
use Rattle.chunk_slots.proofs.ColumnLaws.{keeps-itself, kept_more}
use Rattle.chunk_slots.proofs.ChunkLaws.{column_there, size_kept, chunk_vector_set}
use Rattle.chunk_slots.proofs.chunk.Chunk.set_vector.Goals as goal

pub set-requires-clause-slot : goal.set-requires-clause-slot
set-requires-clause-slot c =
    column_there c.args.slot c.from.result c.args.column c.self.inside.columns.items c.index_mut.result.now c.self.inside.rows c.args.self.now
    c.self.invariant c.from.ensures c.requires.column c.self.view_is c.requires.used c.index_mut.ensures.value

pub invariant_of-self-2 : goal.invariant_of-self-2
invariant_of-self-2 c =
    let columns = c.self.inside.columns.items in
    let d = c.index_mut.result.now in
    let is = c.in_ok-set.ensures {u = tt} ∙ ap (column_with c.args.slot c.args.vector.now) c.index_mut.ensures.value in
    size_kept c.args.slot _ columns _ c.self.invariant (kept_more c.args.slot c.from.result c.args.vector.now columns columns d c.set.new.self is (keeps-itself c.args.slot columns))

pub returns : goal.returns
returns c =
    let columns = c.self.inside.columns.items in
    let d = c.index_mut.result.now in
    let is = c.in_ok-set.ensures {u = tt} ∙ ap (column_with c.args.slot c.args.vector.now) c.index_mut.ensures.value in
    let there = subst (λ column. c.args.slot < length column.vectors) c.index_mut.ensures.value (
    column_there c.args.slot c.from.result c.args.column columns d c.self.inside.rows c.args.self.now c.self.invariant c.from.ensures c.requires.column c.self.view_is c.requires.used c.index_mut.ensures.value) in
    chunk_vector_set c.args.slot c.from.result c.args.vector.now columns d c.set.new.self c.self.inside.rows c.args.self.now there c.self.view_is is
    ∙ ap (λ i. with_slot c.args.slot (with_vector i c.args.vector.now (slot_at c.args.self.now c.args.slot)) c.args.self.now) c.from.ensures
