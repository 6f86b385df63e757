use Rattle.std.proofs.Common.{inl, sym, ap, ◌∙◌}
use Rattle.plain_engine.specs.inner.CursorAnswers.{opened_over}
use Rattle.plain_engine.specs.inner.Machines.{session_at, state_of}
use Rattle.plain_engine.proofs.SessionLaws.{answers_same, number-left, opened-is}
use Rattle.plain_engine.proofs.machine.Machine.open_cursor.Goals as goal

pub add_cursor-requires-clause-room : goal.add_cursor-requires-clause-room
add_cursor-requires-clause-room c =
    let old = c.args.self.now in
    number-left c.args.select.now (state_of old) (session_at old c.args.at) c.in-Ok-Ok.rows (sym c.in-Ok-Ok.field-0-is ∙ c.in-Ok-Ok.ensures)

pub returns-in-Ok-Ok : goal.returns-in-Ok-Ok
returns-in-Ok-Ok c =
    let old = c.args.self.now in
    let same = opened-is c.args.select.now (state_of old) (session_at old c.args.at)
    ∙ ap (opened_over (state_of old) (session_at old c.args.at)) (sym c.in-Ok-Ok.ensures ∙ c.in-Ok-Ok.field-0-is) in
    answers_same _ _ old c.add_cursor.result c.add_cursor.new.self same c.add_cursor.ensures

pub returns-in-Ok-Err : goal.returns-in-Ok-Err
returns-in-Ok-Err c =
    let old = c.args.self.now in
    inl (opened-is c.args.select.now (state_of old) (session_at old c.args.at)
    ∙ ap (opened_over (state_of old) (session_at old c.args.at)) (sym c.in-Ok-Err.ensures ∙ c.in-Ok-Err.field-0-is))
