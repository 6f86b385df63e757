use Rattle.std.proofs.Common.{◌∙◌, ap, sym}
use Rattle.row_model.specs.Check.{check_insert}
use Rattle.row_model.proofs.SchemaLaws.{narrow_columns}
use Rattle.shadow_records.specs.PlacedTables.{PlacedTable}
use Rattle.txn_writes.proofs.WriteLaws.{barred, inserted-is, makes, table-is, version-there}
use Rattle.txn_writes.proofs.inserts.inserted_under.Goals as goal

pub opened-requires-clause-there : goal.opened-requires-clause-there
opened-requires-clause-there c = version-there c.args.machine.now c.args.at c.args.insert.now.table c.args.number c.requires.number

pub check_insert-requires : goal.check_insert-requires
check_insert-requires c = record { narrow = rw c.schema.ensures (narrow_columns c.version_seen-version.result.now.table.schema c.known.ensures.valid.schema) }

pub grow-requires-clause-opened : goal.grow-requires-clause-opened
grow-requires-clause-opened c = c.in-Ok.ensures.kept c.args.insert.now.table c.requires.number

pub grow-requires-clause-checked : goal.grow-requires-clause-checked
grow-requires-clause-checked c =
    let insert = c.args.insert.now in
    let o = c.in-Ok.ensures.kept insert.table c.requires.number in
    let same = o.same ∙ table-is c.args.machine.now c.args.at insert.table c.args.number c.version_seen-version.result.now o.number_is c.version_seen-version.ensures in
    ap (λ (t : PlacedTable). check_insert t.schema.columns insert) same ∙ rw c.schema.ensures at (sym c.check_insert.ensures ∙ c.in_default.is)

pub returns-in-Err : goal.returns-in-Err
returns-in-Err c =
    let m = c.args.machine.now in
    let insert = c.args.insert.now in
    let v = c.version_seen-version.result.now in
    let same = table-is m c.args.at insert.table c.args.number v c.requires.number c.version_seen-version.ensures in
    barred m c.args.at _ _ _ c.in-Err.refusal (inserted-is m c.args.at insert c.args.number v.table c.requires.number same) (rw c.schema.ensures at (sym c.check_insert.ensures ∙ c.in_default.is)) c.in-Err.ensures.refused

pub returns-in-Ok : goal.returns-in-Ok
returns-in-Ok c =
    let m = c.args.machine.now in
    let insert = c.args.insert.now in
    let o = c.in-Ok.ensures.kept insert.table c.requires.number in
    let same = o.same ∙ table-is m c.args.at insert.table c.args.number c.version_seen-version.result.now o.number_is c.version_seen-version.ensures in
    let fine = ap (λ (t : PlacedTable). check_insert t.schema.columns insert) same ∙ rw c.schema.ensures at (sym c.check_insert.ensures ∙ c.in_default.is) in
    makes m c.args.at _ _ _ c.grow.result (inserted-is m c.args.at insert c.args.number c.in-Ok.kept.version.table o.number_is (sym o.same)) fine c.in-Ok.ensures.free c.grow.ensures
