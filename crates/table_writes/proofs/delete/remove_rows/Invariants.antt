use Rattle.std.proofs.Common.{◌≡◌, drop}
use Rattle.table_version.specs.Versions.{KeepsOrigin}
use Rattle.table_writes.specs.inner.OneByOne.{without}
use Rattle.table_writes.proofs.UpdateLaws.{IsUnderWay}
use Rattle.table_writes.proofs.delete.remove_rows.Given as goal

abbrev pub invariant-loop-rowid : goal.invariant-loop-rowid
invariant-loop-rowid l = record {
  way : IsUnderWay l.initial.table.table l.table.table without l.rowids (drop l.rowid-index l.rowids);
  name : l.table.table.name ≡ l.initial.table.table.name;
  schema : l.table.table.schema ≡ l.initial.table.table.schema;
  origin : KeepsOrigin l.initial.table l.table;
}
