use Rattle.std.proofs.Common.{sym, ◌∙◌, arith}
use Rattle.metadata_chunks.proofs.FilterLaws.{behind, slot_within, until_next, until_end}
use Rattle.metadata_chunks.proofs.cells.keep_passing.Goals as goal

pub overflow_add-slot : goal.overflow_add-slot
overflow_add-slot g c = omega (arith, slot_within c.loop-slot.from c.in-Some.slot c.args.cells.now c.loop-slot.keep c.loop-slot.invariant.within c.loop-slot.invariant.size (sym c.next_set.ensures ∙ c.in-Some.is), c.requires.short)

pub keep_run-requires-clause-order : goal.keep_run-requires-clause-order
keep_run-requires-clause-order g c = omega (arith, slot_within c.loop-slot.from c.in-Some.slot c.args.cells.now c.loop-slot.keep c.loop-slot.invariant.within c.loop-slot.invariant.size (sym c.next_set.ensures ∙ c.in-Some.is), c.min-from.ensures, c.len-size.ensures)

pub loop-slot-smaller : goal.loop-slot-smaller
loop-slot-smaller g c =
    omega (arith, slot_within c.loop-slot.from c.in-Some.slot c.args.cells.now c.loop-slot.keep c.loop-slot.invariant.within c.loop-slot.invariant.size (sym c.next_set.ensures ∙ c.in-Some.is), c.min-from.ensures, c.len-size.ensures, behind c.loop-slot.from c.in-Some.slot c.loop-slot.keep (sym c.next_set.ensures ∙ c.in-Some.is))

pub loop-slot-preserved : goal.loop-slot-preserved
loop-slot-preserved g c = record {
  within = omega (arith, c.min-from.ensures, c.len-size.ensures);
  size = c.keep_run.ensures.size ∙ c.loop-slot.invariant.size;
  kept = c.keep_run.ensures.kept c.args.keep.now c.requires.size
      (until_next (g.C.Test.passed c.args.test.now) c.loop-slot.from c.in-Some.slot c.args.cells.now c.args.keep.now c.loop-slot.keep c.requires.size c.loop-slot.invariant.kept (sym c.next_set.ensures ∙ c.in-Some.is));
}

pub returns : goal.returns
returns g c =
    until_end (g.C.Test.passed c.args.test.now) c.loop-slot.from c.args.cells.now c.args.keep.now c.loop-slot.keep c.requires.size c.loop-slot.invariant.within c.loop-slot.invariant.kept (sym c.next_set.ensures ∙ c.in_default.is)
