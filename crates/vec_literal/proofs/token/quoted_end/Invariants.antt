use Rattle.std.proofs.Common.{◌-◌, length}
use Rattle.vec_literal.proofs.Quoted.{IsRead}
use Rattle.vec_literal.proofs.token.quoted_end.Given as goal

abbrev pub invariant-loop-quote : goal.invariant-loop-quote
invariant-loop-quote l = IsRead l.text l.fn.from l.start l.end

abbrev pub decreases-loop-quote : goal.decreases-loop-quote
decreases-loop-quote l = length l.text - l.start
