use Rattle.std.proofs.Common.{Bool, ◌≡◌, None, length, take, arith}
use Rattle.std.proofs.lemmas.List.{take_all}
use Rattle.std.proofs.lemmas.List.Sums.{length-filter, count_by-le-length}
use Rattle.row_model.specs.declared.row.Row.{Row}
use Rattle.row_model.specs.Answer.{at_zero, counted, counts}
use Rattle.plain_engine.proofs.answer.limited.Goals as goal

pub returns-in-None : goal.returns-in-None
returns-in-None c =
    let rows = c.args.rows.now in
    let select = c.args.select.now in
    let such : Row → Bool = λ r. counts c.args.columns.now select.where_terms (at_zero r) in
    let whole_count = length-filter such rows in
    let few = count_by-le-length such rows in
    let whole : take (length rows) (counted c.args.columns.now select.where_terms None rows) ≡ counted c.args.columns.now select.where_terms None rows =
    take_all (length rows) (counted c.args.columns.now select.where_terms None rows) (omega (arith, whole_count, few)) in
    rw (c.in-None.is, ← whole, ← c.as_slice-terms.ensures) c.scanned.ensures
