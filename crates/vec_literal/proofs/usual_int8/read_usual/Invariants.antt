-- The vector has the elements so far.
use Rattle.std.proofs.Common.{◌-◌, length}
use Rattle.vec_literal.proofs.Int8Usual.{AwaitsElement}
use Rattle.vec_literal.proofs.usual_int8.read_usual.Given as goal

abbrev pub invariant-loop-element : goal.invariant-loop-element
invariant-loop-element l = AwaitsElement l.text l.vector.items l.from

abbrev pub decreases-loop-element : goal.decreases-loop-element
decreases-loop-element l = length l.text - l.from
