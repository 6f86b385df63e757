use Rattle.std.proofs.Common.{rules, ◌≡◌, ◌-◌, None, sym}
use Rattle.row_model.specs.Groups.{kind_in}
use Rattle.row_store.specs.Shown.{shown}
use Rattle.table_version.proofs.ViewLaws.{column_past}
use Rattle.table_version.proofs.row_view.RowView.field.Goals as goal

pub returns-in-None : goal.returns-in-None
returns-in-None c =
    let columns = c.self.inside.schema.now.columns in
    let s = shown c.self.inside.rowid c.self.inside.row in
    let none : kind_in columns (c.args.column - 1) ≡ None = search rules in
    rw (← c.self.view_is) (sym (column_past columns c.self.inside.rowid c.self.inside.row c.args.column (search rules) none))
