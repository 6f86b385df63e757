use Rattle.std.proofs.Common.{rules, ◌≡◌, true, SFits}
use Rattle.std.specs.Int.{w64}
use Rattle.std.proofs.lemmas.Int.{to_z-of_z}
use Rattle.std.proofs.lemmas.Result.{IfErr-weaker, on_ok_weaker}
use Rattle.record_bodies.specs.ReadRows.{read_as}
use Rattle.row_model.proofs.SchemaLaws.{few_columns}
use Rattle.table_attach.specs.inner.Filling.{is_row_key}
use Rattle.table_attach.proofs.StepLaws.{row_refused, row_taken}
use Rattle.table_attach.proofs.fill.take.Goals as goal

pub row-requires-clause-few : goal.row-requires-clause-few
row-requires-clause-few c = rw (c.as_slice-columns.ensures, c.schema.ensures) (few_columns c.args.table.now.table.schema c.known.ensures.valid.schema)

pub returns-in-Ok-Some-clause-taken : goal.returns-in-Ok-Some-clause-taken
returns-in-Ok-Some-clause-taken c =
    let key : is_row_key c.args.number c.args.kept.now.0 ≡ true = search rules in
    let fits : SFits w64 c.args.kept.now.0.a = search rules in
    let same = to_z-of_z w64 c.args.kept.now.0.a fits in
    let placed = rw same at c.place.ensures.placed in
    on_ok_weaker c.place.result
    (λ both. row_taken c.args.number c.args.records.now c.args.table.now.table c.args.kept.now (read_as c.args.kept.now.0.a c.in-Ok-Some.row) c.place.new.table.table key (search rules) both.0 both.1)
    placed

pub returns-in-Ok-Some-clause-refused : goal.returns-in-Ok-Some-clause-refused
returns-in-Ok-Some-clause-refused c =
    let key : is_row_key c.args.number c.args.kept.now.0 ≡ true = search rules in
    let fits : SFits w64 c.args.kept.now.0.a = search rules in
    let same = to_z-of_z w64 c.args.kept.now.0.a fits in
    let refused = rw same at c.place.ensures.refused in
    IfErr-weaker c.place.result _ _
    (λ fault never damaged. row_refused c.args.number c.args.records.now c.args.table.now.table c.args.kept.now (read_as c.args.kept.now.0.a c.in-Ok-Some.row) key (search rules) (never damaged))
    refused
