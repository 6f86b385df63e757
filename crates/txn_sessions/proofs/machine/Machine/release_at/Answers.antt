use Rattle.std.proofs.Common.{◌∙◌, ap, refl, ◌&&◌}
use Rattle.std.specs.Prelude.{◌==◌}
use Rattle.txn_sessions.specs.declared.session.OpenSession.{OpenSession}
use Rattle.txn_sessions.specs.Sessions.{cut_to}
use Rattle.txn_sessions.proofs.SessionLaws.{cut-is, cut-on, session-is, takes_change}
use Rattle.txn_sessions.proofs.machine.Machine.release_at.Goals as goal

pub returns-else-place-index : goal.returns-else-place-index
returns-else-place-index c =
    let old = c.args.self.now in
    let here = session-is old.sessions.items c.args.at c.index.result.now c.requires.at.within c.index.ensures in
    takes_change (cut_to c.args.place) old _ _ c.args.at c.index_mut.result.now c.cut.new.self c.requires.sound c.requires.at c.index_mut.ensures.value c.cut.ensures refl (cut-on old.shelf c.args.place _)
    (cut-is old c.args.at c.args.place (ap (λ (s : OpenSession). (c.args.place == 0) && s.by_savepoint) here ∙ c.if-place-index.false))
