use Rattle.std.proofs.Common.{refl}
use Rattle.txn_sessions.proofs.SweepLaws.{freed}
use Rattle.txn_sessions.proofs.machine.Machine.free_unnamed.Goals as goal

pub returns : goal.returns
returns c = freed c.args.self.now _ c.args.place c.requires (c.is_unnamed.ensures.0 c.if-not-is_unnamed.false) c.free.ensures refl refl refl refl
