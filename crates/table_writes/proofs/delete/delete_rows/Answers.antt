use Rattle.std.proofs.Common.{◌∙◌, ℤ, List, ap}
use Rattle.row_model.specs.Change.{with_rows}
use Rattle.row_model.specs.Values.{meets_all}
use Rattle.row_model.specs.declared.row.Row.{Row}
use Rattle.shadow_records.specs.PlacedTables.{plain, plain_rows}
use Rattle.table_writes.specs.inner.OneByOne.{one_by_one, without}
use Rattle.table_writes.proofs.OneByOneLaws.{removed_all}
use Rattle.table_writes.proofs.delete.delete_rows.Goals as goal

pub returns-clause-changed : goal.returns-clause-changed
returns-clause-changed c =
    let table = c.args.table.now.table in
    let terms = c.args.plan.now.select.where_terms in
    let ids = c.as_slice.ensures ∙ c.in_ok-rowids.ensures {u = tt} in
    (c.in_ok-remove_rows.ensures {u = tt}).removed
    ∙ ap (λ (is : List ℤ). with_rows (plain table) (one_by_one without is (plain_rows table.rows))) ids
    ∙ ap (with_rows (plain table)) (removed_all (λ (r : Row). meets_all table.schema.columns terms r) (plain_rows table.rows) c.known.ensures.valid.rising)
