use Rattle.std.proofs.Common.{refl}
use Rattle.txn_sessions.specs.Sessions.{without_place}
use Rattle.txn_sessions.proofs.ExchangeLaws.{closed-is, without-on}
use Rattle.txn_sessions.proofs.SessionLaws.{takes_change}
use Rattle.txn_sessions.proofs.machine.Machine.close_cursor.Goals as goal

pub returns-in-Some : goal.returns-in-Some
returns-in-Some c =
    let old = c.args.self.now in
    takes_change (without_place c.in-Some.place) old _ _ c.args.at c.index_mut.result.now c.close_cursor.new.self c.requires.sound c.requires.at c.index_mut.ensures.value c.close_cursor.ensures refl
    (without-on old.shelf c.in-Some.place _) (closed-is old c.args.at c.args.number c.in-Some.place c.in-Some.ensures)
