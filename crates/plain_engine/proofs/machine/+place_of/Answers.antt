use Rattle.std.proofs.Common.{◌≡◌, false}
use Rattle.std.specs.Prelude.{◌==◌}
use Rattle.std.proofs.lemmas.Bool.{ne_eqb}
use Rattle.plain_engine.proofs.PlaceLaws.{session_later}
use Rattle.plain_engine.proofs.machine.+place_of.Goals as goal

pub returns-in-Some : goal.returns-in-Some
returns-in-Some t c =
    let other : (c.in_ok-session.session.now.id == c.args.id) ≡ false = ne_eqb c.in_ok-session.session.now.id c.args.id c.if-session-id.false in
    let later = session_later c.args.id c.in_ok-session.session.now c.in_ok-session.others.now c.in-Some.at other c.in-Some.ensures in
    rw c.in_ok-session.ensures.cases.0 later
