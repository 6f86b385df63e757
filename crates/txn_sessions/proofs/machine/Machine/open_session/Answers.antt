use Rattle.std.proofs.Common.{◌∙◌, sym, inl, inr}
use Rattle.txn_sessions.proofs.SessionLaws.{opens, wants}
use Rattle.txn_sessions.proofs.machine.Machine.open_session.Goals as goal

pub returns-in-Ok : goal.returns-in-Ok
returns-in-Ok c =
    let made = c.in-Ok.ensures in
    inl (opens c.args.self.now c.add_session.new.self c.requires.sound (rw c.as_slice.ensures.value at (sym c.in-None.is ∙ c.session_refusal.ensures)) made.parts.0 made.parts.1 made.parts.2 made.ok.1 made.ok.0)

pub returns-in-Err : goal.returns-in-Err
returns-in-Err c =
    let made = c.in-Err.ensures in
    inr (wants c.args.self.now c.add_session.new.self c.requires.sound made.parts.0 made.parts.1 made.parts.2 made.err.1 made.err.0)
