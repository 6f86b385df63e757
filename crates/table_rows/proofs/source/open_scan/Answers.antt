use Rattle.std.proofs.Common.{rules, ◌≡◌, ◌∙◌, ap, Some, None, map, take}
use Rattle.std.specs.Option.{option_map}
use Rattle.row_model.specs.Answer.{number_in}
use Rattle.row_model.specs.declared.row.Row.{Row}
use Rattle.table_rows.proofs.ScanLaws.{all_answered, first_answered}
use Rattle.table_rows.specs.ScanRows.{scan_rows}
use Rattle.table_rows.proofs.source.open_scan.Goals as goal

pub returns-in-Some : goal.returns-in-Some
returns-in-Some c =
    let rows = scan_rows c.args.plan.now c.args.table.now.table in
    let limited : option_map number_in c.args.plan.now.select.limit ≡ Some c.in-Some.limit = search rules in
    c.open_scan.ensures rows ∙ first_answered c.args.plan.now c.args.table.now.table c.in-Some.limit c.requires.plan c.requires.no_target limited

pub returns-in-None : goal.returns-in-None
returns-in-None c =
    let rows = scan_rows c.args.plan.now c.args.table.now.table in
    let unlimited : option_map number_in c.args.plan.now.select.limit ≡ None = search rules in
    c.open_scan-in-None.ensures rows
    ∙ ap (λ n. take n (map (λ (row : Row). row.values) rows)) c.rows.ensures
    ∙ all_answered c.args.plan.now c.args.table.now.table c.requires.plan c.requires.no_target unlimited
