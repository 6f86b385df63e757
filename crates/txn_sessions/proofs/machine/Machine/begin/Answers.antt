use Rattle.std.proofs.Common.{◌∙◌, sym, ap, refl}
use Rattle.txn_sessions.specs.Sessions.{begin_phase, entered}
use Rattle.txn_sessions.proofs.SessionLaws.{begun-is, begun-on, takes_change}
use Rattle.txn_sessions.proofs.machine.Machine.begin.Goals as goal

pub returns-in-None : goal.returns-in-None
returns-in-None c =
    let old = c.args.self.now in
    takes_change (entered (begin_phase c.args.immediate old.held old.commits)) old _ _ c.args.at c.index_mut.result.now c.enter.new.self c.requires.sound c.requires.at c.index_mut.ensures.value
    (c.enter.ensures ∙ ap (λ p. entered p c.index_mut.result.now) c.begin_phase-phase.ensures) refl (begun-on old c.args.immediate _ c.requires.sound)
    (begun-is old c.args.at c.args.immediate (sym c.in-None.is ∙ rw c.as_slice.ensures.value at (c.begin_refusal.ensures old.shelf)))
