use Rattle.std.proofs.Common.{◌∙◌, sym, ap, refl}
use Rattle.txn_sessions.specs.Sessions.{entered}
use Rattle.txn_sessions.specs.declared.session.Phase.TheVariants.{Idle}
use Rattle.txn_sessions.specs.declared.session.OpenSession.{OpenSession}
use Rattle.txn_sessions.proofs.SessionLaws.{committed-reading, committed-writing, entered-on, session-is, takes_change}
use Rattle.txn_sessions.proofs.machine.Machine.commit.Goals as goal

pub returns-in-Reading : goal.returns-in-Reading
returns-in-Reading c =
    let old = c.args.self.now in
    takes_change (entered Idle) old _ _ c.args.at c.index_mut.result.now c.enter.new.self c.requires.sound c.requires.at c.index_mut.ensures.value c.enter.ensures refl (entered-on old.shelf _)
    (committed-reading old c.args.at _ _ (ap (λ (s : OpenSession). s.phase) (session-is old.sessions.items c.args.at c.index.result.now c.requires.at.within c.index.ensures) ∙ c.in-Reading.is))

pub returns-in-None : goal.returns-in-None
returns-in-None c =
    let old = c.args.self.now in
    committed-writing old c.args.at _ _ c.requires.sound c.requires.at (ap (λ (s : OpenSession). s.phase) (session-is old.sessions.items c.args.at c.index.result.now c.requires.at.within c.index.ensures) ∙ c.in-Writing.is) (sym c.in-None.is ∙ c.commits_spent.ensures)
