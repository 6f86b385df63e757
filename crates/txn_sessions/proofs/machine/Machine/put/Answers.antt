use Rattle.std.proofs.Common.{refl}
use Rattle.txn_sessions.proofs.MoveLaws.{keeps-moves}
use Rattle.txn_sessions.proofs.machine.Machine.put.Goals as goal

pub returns-clause-moved : goal.returns-clause-moved
returns-clause-moved c = keeps-moves c.args.self.now _ c.requires.sound c.put_from.ensures.kept refl refl refl refl
