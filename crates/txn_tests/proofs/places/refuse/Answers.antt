use Rattle.std.proofs.Common.{inr, refl}
use Rattle.vec_base.specs.declared.refusal.Refusal.TheVariants.{WantOfMemory}
use Rattle.row_model.specs.declared.request.Reply.TheVariants.{Refused}
use Rattle.txn_sessions.specs.Seen.{state_of}
use Rattle.txn_sessions.proofs.TurnLaws.{takes_none}
use Rattle.txn_tests.proofs.places.refuse.Goals as goal

pub returns : goal.returns
returns c = inr (takes_none c.args.machine.now (Refused WantOfMemory, state_of c.args.machine.now) (Refused WantOfMemory) c.requires refl)
