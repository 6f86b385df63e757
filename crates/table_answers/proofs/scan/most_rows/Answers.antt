use Rattle.std.proofs.Common.{rules, ◌≡◌, ◌∙◌, ap, length, take, Some, None}
use Rattle.std.specs.Option.{option_map}
use Rattle.row_model.specs.Answer.{answer, number_in}
use Rattle.row_model.specs.declared.row.Row.{Row}
use Rattle.shadow_records.specs.PlacedTables.{plain}
use Rattle.table_answers.proofs.CountLaws.{as_many}
use Rattle.table_rows.proofs.ScanLaws.{all_answered, first_answered}
use Rattle.table_rows.specs.ScanRows.{scan_rows}
use Rattle.table_answers.proofs.scan.most_rows.Goals as goal

pub returns-in-Some : goal.returns-in-Some
returns-in-Some c =
    let plan = c.args.plan.now in
    let table = c.args.table.now.table in
    let limited : option_map number_in plan.select.limit ≡ Some c.in-Some.limit = search rules in
    as_many (λ (row : Row). row.values) c.in-Some.limit (scan_rows plan table) (answer (plain table) plan.select) (first_answered plan table c.in-Some.limit c.requires.plan c.requires.no_target limited)

pub returns-in-None : goal.returns-in-None
returns-in-None c =
    let plan = c.args.plan.now in
    let table = c.args.table.now.table in
    let unlimited : option_map number_in plan.select.limit ≡ None = search rules in
    ap (λ n. length (take n (scan_rows plan table))) c.rows.ensures
    ∙ as_many (λ (row : Row). row.values) (length table.rows) (scan_rows plan table) (answer (plain table) plan.select) (all_answered plan table c.requires.plan c.requires.no_target unlimited)
