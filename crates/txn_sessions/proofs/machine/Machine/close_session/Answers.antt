use Rattle.std.proofs.Common.{refl}
use Rattle.txn_sessions.proofs.SessionLaws.{closes}
use Rattle.txn_sessions.proofs.machine.Machine.close_session.Goals as goal

pub returns : goal.returns
returns c = closes c.args.self.now c.args.at _ c.requires.sound c.requires.at refl refl refl refl c.remove.ensures.items
