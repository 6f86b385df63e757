use Rattle.std.proofs.Common.{get_or, ap, sym, ◌∙◌}
use Rattle.metadata_chunks.proofs.FilterLaws.{one_clear, one_stays, one_goes}
use Rattle.metadata_chunks.proofs.cells.keep_if_passing.Goals as goal
use Rattle.metadata_chunks.proofs.cells.keep_if_passing.Goals.{else-get-via-then-get+else-not-passes, else-get-via-else-get}

pub returns-then-not-passes-clause-kept : goal.returns-then-not-passes-clause-kept
returns-then-not-passes-clause-kept g c =
    let there = c.get-then-get.ensures ∙ ap (λ n. get_or c.args.cells.now n c.get-then-get.result.now) c.from.ensures in
    one_goes (g.C.Test.passed c.args.test.now) c.args.slot c.get-then-get.result.now c.args.cells.now c.args.keep.now c.clear.new.self c.requires.slot there (sym c.get.ensures ∙ c.if-get.true) (sym c.passes.ensures ∙ c.if-not-passes.true) c.clear.ensures

pub returns-else-get-clause-kept : goal.returns-else-get-clause-kept
returns-else-get-clause-kept g c = elim c.else-get.branch [
  | else-get-via-then-get+else-not-passes w ↦
      one_stays (g.C.Test.passed c.args.test.now) c.args.slot w.get-then-get.result.now c.args.cells.now c.args.keep.now c.requires.slot
      (w.get-then-get.ensures ∙ ap (λ n. get_or c.args.cells.now n w.get-then-get.result.now) w.from.ensures) (sym c.get.ensures ∙ w.if-get.true) (sym w.passes.ensures ∙ w.if-not-passes.false)
  | else-get-via-else-get w ↦ one_clear (g.C.Test.passed c.args.test.now) c.args.slot c.args.cells.now c.args.keep.now (sym c.get.ensures ∙ w.if-get.false)
]
