use Rattle.std.proofs.Common.{◌∙◌, rules, sym, ap, subst, w64, SFits}
use Rattle.std.proofs.lemmas.Int.{to_z-of_z}
use Rattle.row_model.specs.Schemas.{is_vector}
use Rattle.shadow_records.specs.Records.{column_at}
use Rattle.table_bodies.specs.declared.unit_record.UnitRecord.{UnitRecord}
use Rattle.table_changes.specs.inner.Touching.{IsRecordOf}
use Rattle.table_changes.proofs.UnitLaws.{vectors_record}
use Rattle.table_changes.proofs.patch.vectors_record.Goals as goal

pub returns : goal.returns
returns c =
    let P : UnitRecord → Type 0 = λ of. IsRecordOf c.args.table.now.table.schema.columns c.args.key.now of in
    let fits : SFits w64 c.args.key.now.b = search rules in
    let same = to_z-of_z w64 c.args.key.now.b fits in
    subst P (sym c.of_column.ensures) (vectors_record c.args.table.now.table c.args.key.now c.in_ok-column_of.field-0 c.requires (c.in_ok-column_of.ensures.found ∙ ap (column_at is_vector c.args.table.now.table) same) (c.in_ok-column_of.ensures.number ∙ same))
