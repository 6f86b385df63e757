use Rattle.std.proofs.Common.{◌≡◌, ◌∙◌, ◌+◌, sym, ap₂, subst, refl, length, None}
use Rattle.row_model.specs.Limits.{over_savepoints}
use Rattle.row_model.specs.RefusalOrder.{first}
use Rattle.txn_sessions.specs.declared.session.OpenSession.{OpenSession}
use Rattle.txn_sessions.specs.Seen.{held_seen}
use Rattle.txn_sessions.specs.Sessions.{saved_session}
use Rattle.txn_sessions.specs.Turns.{saved_phase}
use Rattle.txn_sessions.proofs.SessionLaws.{saved-is, saved-on, session-is, takes_change}
use Rattle.txn_sessions.proofs.machine.Machine.save.Goals as goal

pub returns-in-None : goal.returns-in-None
returns-in-None c =
    let old = c.args.self.now in
    let here = session-is old.sessions.items c.args.at c.index.result.now c.requires.at.within c.index.ensures in
    let few = rw c.as_slice.ensures at (sym c.in-None.is ∙ c.mark_refusal.ensures) in
    takes_change (saved_session c.args.name (held_seen old c.args.at) (saved_phase old c.args.at)) old _ _ c.args.at c.index_mut.result.now c.save.new.self c.requires.sound c.requires.at c.index_mut.ensures.value
    (c.save.ensures ∙ ap₂ (λ h p. saved_session c.args.name h p c.index_mut.result.now) c.seen-held.ensures c.saved_phase-phase.ensures) refl (saved-on old c.args.name _ c.requires.sound)
    (saved-is old c.args.at c.args.name (subst (λ (s : OpenSession). None ≡ first (over_savepoints (length s.marks + 1))) (sym here) few))
