use Rattle.std.proofs.Common.{rules, ◌∙◌, sym, ap, Some, w64}
use Rattle.std.proofs.lemmas.Int.{to_z-of_z}
use Rattle.row_store.specs.Shown.{shown}
use Rattle.table_version.specs.inner.StoredTables.{placed}
use Rattle.table_version.proofs.ViewLaws.{partition_there, row_there}
use Rattle.table_version.proofs.table.TableVersion.row.Goals as goal

pub invariant_of-result : goal.invariant_of-result
invariant_of-result c =
    let v = c.self.inside in
    let row = c.in_ok-row.row in
    let found = c.in_ok-row.ensures.row in
    record {
      used = c.in_ok-row.ensures.used;
      widths = c.in_ok-row.ensures.widths ∙ c.self.invariant.widths;
      kinds = c.in_ok-row.ensures.kinds ∙ c.self.invariant.kinds;
      partition = partition_there v.schema.columns v.rows.rows c.args.rowid.now (shown c.args.rowid.now row) c.self.invariant.placed.valid.values c.self.invariant.again found;
    }

pub returns-clause-row : goal.returns-clause-row
returns-clause-row c =
    let v = c.self.inside in
    let same = to_z-of_z w64 c.args.rowid.now (search rules) in
    rw (← c.self.view_is) (row_there v.schema.columns v.rows.rows c.args.rowid.now c.in_ok-row.row c.in_ok-row.ensures.row
    ∙ ap (λ i. Some (placed v.schema.columns (shown i c.in_ok-row.row))) (sym same))
