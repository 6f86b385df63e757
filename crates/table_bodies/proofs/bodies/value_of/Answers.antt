use Rattle.std.proofs.Common.{rules, ◌≡◌, ◌<◌, ◌+◌, ◌^◌, ◌∙◌, false, ap, Some, List}
use Rattle.row_model.specs.Groups.{kind_in}
use Rattle.row_model.specs.Schemas.{has_role, is_vector}
use Rattle.row_model.specs.declared.schema.Column.{Column}
use Rattle.shadow_records.specs.Records.{column_at}
use Rattle.table_bodies.specs.Units.{seen}
use Rattle.table_bodies.proofs.BodyLaws.{found_role, no_vector}
use Rattle.table_bodies.proofs.bodies.value_of.Goals as goal

pub overflow_add-column : goal.overflow_add-column
overflow_add-column c =
    let table = c.args.table.now.table in
    let column = c.in_ok-column.column in
    let found : Some (seen column) ≡ column_at (has_role c.args.role) table c.args.before = search rules in
    let low : column.place + 1 < 2 ^ 8 = (found_role table c.args.role column c.args.before c.known.ensures found).stands.low in
    search rules

pub field-requires : goal.field-requires
field-requires c =
    let table = c.args.table.now.table in
    let column = c.in_ok-column.column in
    let found : Some (seen column) ≡ column_at (has_role c.args.role) table c.args.before = search rules in
    let role = found_role table c.args.role column c.args.before c.known.ensures found in
    let there : kind_in c.args.view.now.columns column.place ≡ Some column.kind =
    ap (λ (columns : List Column). kind_in columns column.place) c.requires.columns ∙ role.stands.kind in
    let other : is_vector column.kind ≡ false = no_vector c.args.role column.kind role.has c.requires.role in
    search rules
