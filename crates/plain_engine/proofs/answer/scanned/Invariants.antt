use Rattle.std.proofs.Common.{◌≡◌, take, None}
use Rattle.std.specs.Prelude.{map}
use Rattle.row_model.specs.Answer.{at_zero, counted}
use Rattle.plain_engine.proofs.answer.scanned.Given as goal

abbrev pub invariant-loop-row : goal.invariant-loop-row
invariant-loop-row l = l.nears.items ≡ map at_zero (take l.most (counted l.columns l.terms None (take l.row-index l.rows)))
