use Rattle.std.proofs.Common.{◌∙◌, sym, ap, refl}
use Rattle.txn_sessions.specs.Sessions.{is_idle_phase, left_idle}
use Rattle.txn_sessions.specs.declared.session.OpenSession.{OpenSession}
use Rattle.txn_sessions.proofs.SessionLaws.{left-on, rolled_back-is, session-is, takes_change}
use Rattle.txn_sessions.proofs.machine.Machine.roll_back.Goals as goal

pub returns : goal.returns
returns c =
    let old = c.args.self.now in
    takes_change left_idle old _ _ c.args.at c.index_mut.result.now c.leave.new.self c.requires.sound c.requires.at c.index_mut.ensures.value c.leave.ensures refl (left-on old.shelf _)
    (rolled_back-is old c.args.at (ap (λ (s : OpenSession). is_idle_phase s.phase) (session-is old.sessions.items c.args.at c.index.result.now c.requires.at.within c.index.ensures) ∙ sym c.is_idle.ensures ∙ c.if-is_idle.false))
