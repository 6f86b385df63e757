use Rattle.std.proofs.Common.{length, ap, sym, ◌∙◌}
use Rattle.chunk_slots.proofs.BlockLaws.{block_there, takes_there, edited_column, edited_blocks}
use Rattle.chunk_slots.proofs.column.Column.set.Goals as goal

pub start_of-requires : goal.start_of-requires
start_of-requires c = rw c.from-width.ensures c.self.invariant.0

pub edit-requires-clause-place : goal.edit-requires-clause-place
edit-requires-clause-place c =
    block_there c.self.inside.width c.args.slot c.block_of.result c.self.inside.blocks c.args.self.now c.self.view_is c.requires.slot c.block_of.ensures

pub edit-requires-clause-takes : goal.edit-requires-clause-takes
edit-requires-clause-takes c =
    takes_there c.self.inside.width c.args.slot c.from-width.result (length c.args.vector.now) c.start_of.result c.block_of.result c.self.inside.blocks
    c.from-width.ensures (c.requires.width ∙ sym (ap (λ column. column.width) c.self.view_is)) c.start_of.ensures c.block_of.ensures c.self.invariant.1

pub invariant_of-self-2 : goal.invariant_of-self-2
invariant_of-self-2 c = (
  c.self.invariant.0,
  edited_blocks c.self.inside.width c.args.slot c.from-width.result c.start_of.result c.block_of.result c.args.vector.now c.self.inside.blocks c.edit.new.self c.args.self.now
      c.from-width.ensures c.start_of.ensures c.block_of.ensures (c.requires.width ∙ sym (ap (λ column. column.width) c.self.view_is)) c.self.invariant.1 c.self.view_is c.requires.slot
      (c.in_ok-edit.ensures {u = tt}),
)

pub returns : goal.returns
returns c =
    edited_column c.self.inside.width c.args.slot c.from-width.result c.start_of.result c.block_of.result c.args.vector.now c.self.inside.blocks c.edit.new.self c.args.self.now
    c.from-width.ensures c.start_of.ensures c.block_of.ensures (c.requires.width ∙ sym (ap (λ column. column.width) c.self.view_is)) c.self.invariant.1 c.self.view_is c.requires.slot
    (c.in_ok-edit.ensures {u = tt})
