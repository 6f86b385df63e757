use Rattle.std.proofs.lemmas.Bool.{ne_eqb}
use Rattle.txn_sessions.proofs.CursorLaws.{cursor_later}
use Rattle.txn_sessions.proofs.cursors.+cursor_in.Goals as goal

pub returns-in-Some : goal.returns-in-Some
returns-in-Some t c =
    rw c.in_ok-cursor.ensures.cases.0
    (cursor_later c.args.number c.in_ok-cursor.cursor.now c.in_ok-cursor.others.now c.in-Some.at (ne_eqb c.in_ok-cursor.cursor.now.number c.args.number c.if-cursor-number.false) c.in-Some.ensures)
