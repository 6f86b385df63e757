use Rattle.std.proofs.Common.{◌∙◌, ◌||◌, true, arith}
use Rattle.http_link.proofs.LastLaws.{last_none, last_same, last_set, or_false, or_true}
use Rattle.http_link.proofs.memory.mark_last.Goals as goal
use Rattle.http_link.proofs.memory.mark_last.Goals.{else-rose-via-then-rose+else-count-gt0, else-rose-via-else-rose}

pub returns-then-count-gt0 : goal.returns-then-count-gt0
returns-then-count-gt0 c =
    c.set.ensures
    ∙ last_set (λ before. before || c.args.rose) c.args.risen.now _ true true (omega (arith, c.if-count-gt0.true, c.len-count.ensures))
    (or_true _ c.args.rose c.if-rose.true)

pub returns-else-rose : goal.returns-else-rose
returns-else-rose c = elim c.else-rose.branch [
  | else-rose-via-then-rose+else-count-gt0 w ↦ last_none (λ before. before || c.args.rose) c.args.risen.now (omega (arith, w.if-count-gt0.false, c.len-count.ensures))
  | else-rose-via-else-rose w ↦ last_same (λ before. before || c.args.rose) c.args.risen.now (or_false c.args.rose w.if-rose.false)
]
