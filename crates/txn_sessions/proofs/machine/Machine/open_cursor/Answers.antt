use Rattle.std.proofs.Common.{◌≡◌, ◌∙◌, ◌+◌, ap, refl, sym}
use Rattle.row_model.specs.declared.request.Reply.TheVariants.{Cursor}
use Rattle.row_model.specs.Machine.{in_session}
use Rattle.txn_sessions.specs.declared.session.OpenSession.{OpenSession}
use Rattle.txn_sessions.specs.Seen.{session_seen, state_of}
use Rattle.txn_sessions.specs.Sessions.{open_at, with_added}
use Rattle.txn_sessions.proofs.ExchangeLaws.{added-is, added-on}
use Rattle.txn_sessions.proofs.SessionLaws.{session-is, takes_change}
use Rattle.txn_sessions.proofs.machine.Machine.open_cursor.Goals as goal

pub returns : goal.returns
returns c =
    let old = c.args.self.now in
    let s = open_at old.sessions.items c.args.at in
    let here = session-is old.sessions.items c.args.at c.index_mut.result.now c.requires.at.within c.index_mut.ensures.value in
    let number : s.last_cursor + 1 ≡ c.add_cursor.result = ap (λ (o : OpenSession). o.last_cursor + 1) here ∙ sym c.add_cursor.ensures.number in
    takes_change (with_added c.args.cursor c.args.origin) old _ _ c.args.at c.index_mut.result.now c.add_cursor.new.self c.requires.sound c.requires.at c.index_mut.ensures.value c.add_cursor.ensures.session refl
    (added-on old.shelf c.args.cursor c.args.origin _ c.requires.origin)
    (added-is old c.args.at c.args.cursor c.args.origin
    ∙ ap (λ n. (Cursor n, in_session (state_of old) (session_seen old.shelf (with_added c.args.cursor c.args.origin s)))) number)
