use Rattle.std.proofs.Common.{replicate, ap, ◌∙◌}
use Rattle.std.proofs.lemmas.List.{length-replicate}
use Rattle.chunk_slots.specs.inner.Blocks.{column_with}
use Rattle.chunk_slots.proofs.BlockLaws.{block_there, takes_there, edited_column, edited_blocks}
use Rattle.chunk_slots.proofs.column.Column.clear.Goals as goal

pub edit-requires-clause-place : goal.edit-requires-clause-place
edit-requires-clause-place c =
    block_there c.self.inside.width c.args.slot c.block_of.result c.self.inside.blocks c.args.self.now c.self.view_is c.requires c.block_of.ensures

pub edit-requires-clause-takes : goal.edit-requires-clause-takes
edit-requires-clause-takes c =
    takes_there c.self.inside.width c.args.slot c.from-len.result c.from-len.result c.start_of.result c.block_of.result c.self.inside.blocks
    c.from-len.ensures c.from-len.ensures c.start_of.ensures c.block_of.ensures c.self.invariant.1

pub invariant_of-self-2 : goal.invariant_of-self-2
invariant_of-self-2 c =
    let zeros = replicate c.from-len.result 0 in
    let count = length-replicate c.from-len.result 0 ∙ c.from-len.ensures in (
      c.self.invariant.0,
      edited_blocks c.self.inside.width c.args.slot c.from-len.result c.start_of.result c.block_of.result zeros c.self.inside.blocks c.edit.new.self c.args.self.now
          c.from-len.ensures c.start_of.ensures c.block_of.ensures count c.self.invariant.1 c.self.view_is c.requires (c.in_ok-edit.ensures {u = tt}),
    )

pub returns : goal.returns
returns c =
    let zeros = replicate c.from-len.result 0 in
    let count = length-replicate c.from-len.result 0 ∙ c.from-len.ensures in
    edited_column c.self.inside.width c.args.slot c.from-len.result c.start_of.result c.block_of.result zeros c.self.inside.blocks c.edit.new.self c.args.self.now
    c.from-len.ensures c.start_of.ensures c.block_of.ensures count c.self.invariant.1 c.self.view_is c.requires (c.in_ok-edit.ensures {u = tt})
    ∙ ap (λ n. column_with c.args.slot (replicate n 0) c.args.self.now) (c.from-len.ensures ∙ ap (λ column. column.width) c.self.view_is)
