use Rattle.std.proofs.Common.{rules, ◌≡◌, ◌∙◌, pos, Some}
use Rattle.std.proofs.lemmas.Result.{IfOk-weaker}
use Rattle.row_model.specs.Schemas.{has_role}
use Rattle.shadow_records.specs.Records.{column_at}
use Rattle.table_bodies.specs.Units.{seen}
use Rattle.table_bodies.proofs.BodyLaws.{cells_in, units_there}
use Rattle.table_bodies.proofs.bodies.cells_body.Goals as goal

pub whole-requires : goal.whole-requires
whole-requires c =
    let table = c.args.table.now.table in
    let found : Some (seen c.in-Some.column) ≡ column_at (has_role c.args.role) table c.args.b = search rules in
    rw c.of_column.ensures (units_there table c.args.role c.in-Some.column c.args.b c.requires found (search rules))

pub returns-in-Some : goal.returns-in-Some
returns-in-Some c =
    let table = c.args.table.now.table in
    let found : Some (seen c.in-Some.column) ≡ column_at (has_role c.args.role) table c.args.b = search rules in
    let a : c.args.a ≡ pos c.in-Ok.chunk = search rules in
    IfOk-weaker c.whole.result _ _ (λ body is. is ∙ cells_in table c.args.role c.in-Ok.chunk c.args.a c.args.b c.in-Some.column c.of_column.result c.of_column.ensures a found) c.whole.ensures
