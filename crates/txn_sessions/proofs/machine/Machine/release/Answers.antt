use Rattle.std.proofs.Common.{sym, subst}
use Rattle.row_model.specs.declared.request.Reply.{Reply}
use Rattle.row_model.specs.declared.state.State.{State}
use Rattle.txn_sessions.specs.Turns.{TurnsTo}
use Rattle.txn_sessions.proofs.SessionLaws.{found_at, released-is}
use Rattle.txn_sessions.proofs.machine.Machine.release.Goals as goal

pub returns-in-Some : goal.returns-in-Some
returns-in-Some c =
    let old = c.args.self.now in
    let found = found_at old.sessions.items c.args.at c.index.result.now c.args.name.now c.as_slice.result.now c.in-Some.place c.requires.at.within c.index.ensures c.as_slice.ensures c.in-Some.ensures in
    subst (λ (a : Reply × State). TurnsTo old a c.release_at.result c.release_at.new.self) (sym (released-is old c.args.at c.args.name.now c.in-Some.place found)) c.release_at.ensures
