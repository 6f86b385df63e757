use Rattle.std.proofs.Common.{◌<◌, subst, refl, length}
use Rattle.txn_sessions.specs.Sessions.{gone_back, open_at}
use Rattle.txn_sessions.specs.declared.session.OpenSession.{OpenSession}
use Rattle.txn_sessions.proofs.SessionLaws.{found_at, gone_back-on, rolled_to-is, session-is, takes_change}
use Rattle.txn_sessions.proofs.machine.Machine.roll_back_to.Goals as goal

pub go_back-requires : goal.go_back-requires
go_back-requires c =
    let old = c.args.self.now in
    let found = found_at old.sessions.items c.args.at c.index.result.now c.args.name.now c.as_slice.result.now c.in-Some.place c.requires.at.within c.index.ensures c.as_slice.ensures c.in-Some.ensures in
    subst (λ (s : OpenSession). c.in-Some.place < length s.marks) (session-is old.sessions.items c.args.at c.index_mut.result.now c.requires.at.within c.index_mut.ensures.value) found.within

pub returns-in-Some : goal.returns-in-Some
returns-in-Some c =
    let old = c.args.self.now in
    let found = found_at old.sessions.items c.args.at c.index.result.now c.args.name.now c.as_slice.result.now c.in-Some.place c.requires.at.within c.index.ensures c.as_slice.ensures c.in-Some.ensures in
    takes_change (gone_back c.in-Some.place) old _ _ c.args.at c.index_mut.result.now c.go_back.new.self c.requires.sound c.requires.at c.index_mut.ensures.value c.go_back.ensures refl
    (gone_back-on old.shelf c.in-Some.place (open_at old.sessions.items c.args.at) found.within) (rolled_to-is old c.args.at c.args.name.now c.in-Some.place found)
