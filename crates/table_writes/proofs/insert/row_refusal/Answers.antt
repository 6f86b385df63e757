use Rattle.std.proofs.Common.{rules, ◌≡◌, ◌∙◌, ap₂}
use Rattle.std.specs.Option.{option_or}
use Rattle.row_model.specs.Change.{spent}
use Rattle.row_model.specs.RefusalOrder.{first}
use Rattle.table_writes.specs.Writing.{elsewhere_of}
use Rattle.table_writes.proofs.RefusalLaws.{row_refused}
use Rattle.table_writes.proofs.insert.row_refusal.Goals as goal

pub returns : goal.returns
returns c =
    let table = c.args.table.now.table in
    let left : c.spent.result ≡ first (spent table.top c.args.rowid.now) = search rules in
    c.or-4.ensures
    ∙ ap₂ option_or (c.or-3.ensures ∙ ap₂ option_or (c.or-2.ensures ∙ ap₂ option_or (c.or.ensures ∙ ap₂ option_or c.taken_rowid.ensures c.taken_id.ensures) left) c.long_value.ensures) c.room_refusal.ensures
    ∙ row_refused (elsewhere_of c.args.beside) table c.args.rowid.now c.args.values.now c.args.given.now
