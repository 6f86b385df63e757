use Rattle.std.proofs.Common.{rules, ◌≡◌, ◌<◌, ◌+◌, ◌^◌, ◌∙◌, false, ap, Some}
use Rattle.row_model.specs.Groups.{kind_in}
use Rattle.row_model.specs.Schemas.{is_vector}
use Rattle.table_bodies.proofs.ColumnLaws.{columns_few}
use Rattle.table_bodies.proofs.UnitLaws.{bits_kind, stands_at}
use Rattle.table_bodies.proofs.cells.is_true.Goals as goal

pub overflow_add-column : goal.overflow_add-column
overflow_add-column c =
    let table = c.args.table.now.table in
    let stands = stands_at table.schema.columns c.args.column (columns_few table c.known.ensures) c.requires.column in
    let low : c.args.column.place + 1 < 2 ^ 8 = stands.low in
    search rules

pub field-requires : goal.field-requires
field-requires c =
    let table = c.args.table.now.table in
    let stands = stands_at table.schema.columns c.args.column (columns_few table c.known.ensures) c.requires.column in
    let there : kind_in c.in-Some.view.columns c.args.column.place ≡ Some c.args.column.kind =
    ap (λ columns. kind_in columns c.args.column.place) c.in-Some.ensures.columns ∙ stands.kind in
    let other : is_vector c.args.column.kind ≡ false = ap is_vector (bits_kind c.args.column.kind c.requires.bits) in
    search rules
