use Rattle.std.proofs.Common.{refl}
use Rattle.vec_base.specs.Words.{is_reserved}
use Rattle.engine_tests.proofs.tests.sessions_are_counted_and_looked_for.Goals as goal

pub answer-reply-requires-3 : goal.answer-reply-requires-3
unfolding is_reserved
answer-reply-requires-3 g c = record { well_formed = rw c.in_ok-from_text.ensures (refl, tt) }
