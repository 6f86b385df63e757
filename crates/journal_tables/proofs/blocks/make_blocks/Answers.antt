use Rattle.std.proofs.Common.{arith, ◌<◌, ◌^◌, ◌+◌, ◌-◌, ℕ, List, ◌++◌, length, take, drop, sym, ap, subst, ◌∙◌}
use Rattle.std.proofs.lemmas.List.{take_rest}
use Rattle.vec_base.specs.Representable.{AreBytes}
use Rattle.shadow_keeper.specs.Keeping.{tables_of}
use Rattle.journal_format.specs.Reading.{batch_at}
use Rattle.journal_tables.specs.Making.{BlockIs, GoesOn}
use Rattle.journal_tables.specs.declared.blocks.Block.{Block}
use Rattle.journal_tables.proofs.StopLaws.{one_more}
use Rattle.journal_tables.proofs.blocks.make_blocks.Goals as goal

module _ (c : goal.In-Made) where
  fits : AreBytes c.args.bytes.now
  fits i = omega (arith, c.type_inv.bytes i)

  step : (c.loop-at.at + (9 + c.in-Made.len) < length c.args.bytes.now) × GoesOn (take (c.loop-at.at + (9 + c.in-Made.len)) c.args.bytes.now) c.args.number (tables_of c.args.tables.now.entries) (c.loop-at.next + 1) (tables_of c.make_block.new.tables.entries)
  step =
      let bytes = c.args.bytes.now in
      let old = tables_of c.loop-at.tables.entries in
      let new = tables_of c.make_block.new.tables.entries in
      let low : c.loop-at.next < 2 ^ 64 = omega (arith, c.loop-at.invariant.count, c.loop-at.invariant.within, c.requires.low) in
      let P : Block → Type 0 = λ b. BlockIs (take (length bytes - (c.loop-at.at + 1)) (drop (c.loop-at.at + 1) bytes)) c.loop-at.next old new b in
      one_more bytes c.loop-at.at c.in-Made.len c.args.number c.loop-at.next (tables_of c.args.tables.now.entries) old new fits c.loop-at.invariant.within low c.loop-at-test.true c.loop-at.invariant.on (subst P c.in-Made.is c.in_ok-len.ensures.block)

pub overflow_add-at-in-Made : goal.overflow_add-at-in-Made
overflow_add-at-in-Made c = let lt = (step c).0 in omega arith

pub overflow_add-at-in-Made-2 : goal.overflow_add-at-in-Made-2
overflow_add-at-in-Made-2 c = let lt = (step c).0 in omega arith

pub loop-at-preserved : goal.loop-at-preserved
loop-at-preserved c =
    let more = step c in
    record { within = more.0; count = omega (arith, c.loop-at.invariant.count); on = more.1 }

pub returns-in-Damaged-clause-stops : goal.returns-in-Damaged-clause-stops
returns-in-Damaged-clause-stops c =
    let bytes = c.args.bytes.now in
    let old = tables_of c.loop-at.tables.entries in
    let new = tables_of c.make_block.new.tables.entries in
    let P : Block → Type 0 = λ b. BlockIs (take (length bytes - (c.loop-at.at + 1)) (drop (c.loop-at.at + 1) bytes)) c.loop-at.next old new b in
    let none = subst P c.in-Damaged.is c.in_ok-len.ensures.block in
    (c.loop-at-test.true, (old, c.loop-at.invariant.on, λ more. ap (λ (l : List ℕ). batch_at (l ++ more) c.loop-at.next old) (sym (take_rest bytes (c.loop-at.at + 1))) ∙ none more))
