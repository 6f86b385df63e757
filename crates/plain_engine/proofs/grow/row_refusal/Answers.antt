use Rattle.std.proofs.Common.{ap, sym, ◌∙◌, length}
use Rattle.std.specs.Option.{option_or}
use Rattle.row_model.specs.Change.{taken_rowid, taken_id, spent, long_values, room_refusals}
use Rattle.plain_engine.proofs.TopLaws.{first_of_four, second_empty}
use Rattle.plain_engine.proofs.grow.row_refusal.Goals as goal

pub returns-clause-first : goal.returns-clause-first
returns-clause-first c = λ other is free.
    let table = c.args.table.now in
    let room = c.room_refusal.ensures other table.rows is (ap length c.as_slice-rows.ensures) in
    rw (c.or-3.ensures, c.or-2.ensures, c.or.ensures, c.taken_id-taken.ensures, c.spent.ensures, c.long_value.ensures, room, c.as_slice-rows.ensures, c.as_slice.ensures, c.as_slice-2.ensures)
    (first_of_four (taken_rowid table.rows c.args.rowid.now) (taken_id table.schema.columns table.rows c.args.row.now.values)
    (spent table.top c.args.rowid.now) (long_values c.args.given.now) (room_refusals other table.rows c.args.row.now) free)

pub returns-clause-left : goal.returns-clause-left
returns-clause-left c = λ none.
    second_empty c.taken_id-taken.result c.long_value.result c.room_refusal.result (spent c.args.table.now.top c.args.rowid.now)
    (ap (λ z. option_or (option_or (option_or c.taken_id-taken.result z) c.long_value.result) c.room_refusal.result) (sym c.spent.ensures)
    ∙ ap (λ z. option_or (option_or z c.long_value.result) c.room_refusal.result) (sym c.or.ensures)
    ∙ ap (λ z. option_or z c.room_refusal.result) (sym c.or-2.ensures) ∙ sym c.or-3.ensures ∙ none)
