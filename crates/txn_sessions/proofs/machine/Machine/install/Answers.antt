use Rattle.std.proofs.Common.{◌∙◌, ap, refl}
use Rattle.txn_sessions.specs.declared.session.Phase.TheVariants.{Writing}
use Rattle.txn_sessions.specs.declared.session.OpenSession.{OpenSession}
use Rattle.txn_sessions.specs.Sessions.{with_phase}
use Rattle.txn_sessions.proofs.SessionLaws.{session-is, takes_change}
use Rattle.txn_sessions.proofs.ChangeLaws.{taken-reading, taken-writing, with_phase-on}
use Rattle.txn_sessions.proofs.machine.Machine.install.Goals as goal

pub returns-in-Reading : goal.returns-in-Reading
returns-in-Reading c =
    let old = c.args.self.now in
    let here = session-is old.sessions.items c.args.at c.index.result.now c.requires.at.within c.index.ensures in
    takes_change (with_phase (Writing c.in-Reading.number c.args.held)) old _ _ c.args.at c.index_mut.result.now c.set_phase.new.self c.requires.sound c.requires.at c.index_mut.ensures.value c.set_phase.ensures refl
    (with_phase-on old.shelf _ _ c.requires.on) (taken-reading old c.args.at c.args.reply c.args.held _ c.in-Reading.number (ap (λ (s : OpenSession). s.phase) here ∙ c.in-Reading.is))

pub returns-in-Writing : goal.returns-in-Writing
returns-in-Writing c =
    let old = c.args.self.now in
    let here = session-is old.sessions.items c.args.at c.index.result.now c.requires.at.within c.index.ensures in
    takes_change (with_phase (Writing c.in-Writing.base c.args.held)) old _ _ c.args.at c.index_mut-in-Writing.result.now c.set_phase-in-Writing.new.self c.requires.sound c.requires.at c.index_mut-in-Writing.ensures.value c.set_phase-in-Writing.ensures refl
    (with_phase-on old.shelf _ _ c.requires.on) (taken-writing old c.args.at c.args.reply c.args.held _ c.in-Writing.base (ap (λ (s : OpenSession). s.phase) here ∙ c.in-Writing.is))
