use Rattle.std.proofs.Common.{ℕ, ℤ, List, ◌+◌, ◌∙◌, ap, ap₂, sym}
use Rattle.std.specs.Prelude.{sum_by}
use Rattle.row_model.specs.declared.statement.Assign.{Assign}
use Rattle.shadow_records.specs.PlacedTables.{row_of}
use Rattle.table_writes.specs.inner.Capped.{capped}
use Rattle.table_writes.specs.inner.NewValues.{bytes_come, gone_at}
use Rattle.table_writes.proofs.UpdateLaws.{sides_after, updatable}
use Rattle.table_writes.proofs.update.side_total.Goals as goal

pub returns : goal.returns
returns c = λ update is.
    let table = c.args.table.now.table in
    let rowids = c.args.rowids.now in
    let gone = c.all_gone.ensures ∙ ap (λ (ss : List Assign). capped (sum_by (λ (i : ℤ). gone_at table.schema.columns ss (row_of table.rows i)) rowids)) (sym is.sets_are) in
    let come = c.bytes_come.ensures ∙ ap (λ (ss : List Assign). capped (bytes_come ss)) (sym is.sets_are) in
    c.saturating_add-2.ensures
    ∙ ap (λ (n : ℕ). capped (c.args.beside.sides + n)) (c.saturating_add.ensures ∙ ap₂ (λ (a b : ℕ). capped (a + b)) c.saturating_sub-left.ensures c.saturating_mul-added.ensures)
    ∙ sides_after table update rowids c.args.beside.sides c.all_gone.result c.bytes_come.result c.side_bytes.result (updatable table update rowids c.args.sets.now c.known.ensures is) c.side_bytes.ensures gone come
