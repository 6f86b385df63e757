use Rattle.std.proofs.Common.{rules, ◌∙◌, ◌≤◌, ap, length, take}
use Rattle.std.proofs.lemmas.List.{take_all}
use Rattle.row_model.specs.Answer.{answer}
use Rattle.shadow_records.specs.PlacedTables.{plain}
use Rattle.table_answers.proofs.scan.scan_rows.Goals as goal

pub returns-in-Ok-clause-rows : goal.returns-in-Ok-clause-rows
returns-in-Ok-clause-rows c =
    let few : length (answer (plain c.args.table.now.table) c.args.plan.now.select) ≤ 4096 = search rules in
    c.in-Ok.ensures ∙ ap (take 4096) c.open_scan.ensures ∙ take_all 4096 (answer (plain c.args.table.now.table) c.args.plan.now.select) few
