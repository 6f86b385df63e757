use Rattle.std.proofs.Common.{Bool, None, ◌≤◌, ◌∙◌, length, take, map, ap, arith}
use Rattle.row_model.specs.declared.row.Row.{Row}
use Rattle.row_model.specs.Answer.{at_zero, counted, counts}
use Rattle.plain_engine.proofs.ScanLaws.{first_found, length_map}
use Rattle.plain_engine.proofs.answer.scanned.Goals as goal

pub returns-then-most-len : goal.returns-then-most-len
returns-then-most-len c =
    let such : Row → Bool = λ r. counts c.args.columns.now c.args.terms.now (at_zero r) in
    let first = take c.args.most (counted c.args.columns.now c.args.terms.now None (take c.loop-row.row-index c.args.rows.now)) in
    let found = ap length c.loop-row.invariant ∙ length_map at_zero first in
    let enough : c.args.most ≤ length first = omega (arith, c.if-most-len.true, c.len.ensures, found) in
    c.loop-row.invariant ∙ ap (map at_zero) (first_found such c.args.most c.loop-row.row-index c.args.rows.now enough)
