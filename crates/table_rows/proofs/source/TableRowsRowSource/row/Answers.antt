use Rattle.std.proofs.Common.{rules, ◌≡◌, None, Some, ℤ, w64, SFits, List, subst}
use Rattle.std.specs.Prelude.{IfOk}
use Rattle.std.specs.Option.{option_map}
use Rattle.std.proofs.lemmas.Result.{IfOk-weaker}
use Rattle.std.proofs.lemmas.Int.{to_z-of_z}
use Rattle.vec_base.specs.declared.value.Value.{Value}
use Rattle.shadow_records.specs.PlacedTables.{row_of}
use Rattle.snapshot_cursor.specs.Scanned.{values_of}
use Rattle.table_query.specs.Items.{items_at}
use Rattle.table_rows.proofs.ScanLaws.{nowhere, own_items}
use Rattle.table_rows.specs.ScanRows.{scan_rows}
use Rattle.table_rows.proofs.source.TableRowsRowSource.row.Goals as goal

pub returns-then-is_none : goal.returns-then-is_none
returns-then-is_none c =
    let table = c.args.self.now.table.now.table in
    let none : row_of table.rows c.args.rowid ≡ None = search rules in
    record { values = λ own is. absurd (nowhere c.args.self.now.plan.now table c.args.rowid own c.known.ensures.valid.rising none is) }

pub returns : goal.returns
returns c =
    let plan = c.args.self.now.plan.now in
    let table = c.args.self.now.table.now.table in
    let own_values : (values : List Value) → option_map (items_at table.schema.columns plan.select.items 0) (row_of table.rows c.args.rowid) ≡ Some values →
    (own : List Value) → values_of c.args.rowid (scan_rows plan table) ≡ Some own → values ≡ own =
    λ values made own is. own_items plan table c.args.rowid values own c.known.ensures.valid.rising made is in
    let fits : SFits w64 c.args.rowid = search rules in
    let made_all = subst (λ (i : ℤ). IfOk c.project.result (λ (values : List Value). option_map (items_at table.schema.columns plan.select.items 0) (row_of table.rows i) ≡ Some values)) (to_z-of_z w64 c.args.rowid fits) c.project.ensures.items in
    record { values = IfOk-weaker _ _ _ own_values made_all }
