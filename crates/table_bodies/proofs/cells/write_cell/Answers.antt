use Rattle.std.proofs.Common.{List, subst, sym}
use Rattle.row_model.specs.declared.schema.Column.{Column}
use Rattle.table_bodies.specs.inner.Parts.{StandsAt}
use Rattle.table_bodies.proofs.ColumnLaws.{columns_few}
use Rattle.table_bodies.proofs.UnitLaws.{stands_at}
use Rattle.table_bodies.proofs.cells.write_cell.Goals as goal

pub write_value-requires : goal.write_value-requires
write_value-requires c =
    let table = c.args.table.now.table in
    subst (λ (columns : List Column). StandsAt columns c.args.column) (sym c.in-Some.ensures.columns)
    (stands_at table.schema.columns c.args.column (columns_few table c.known.ensures) c.requires)
