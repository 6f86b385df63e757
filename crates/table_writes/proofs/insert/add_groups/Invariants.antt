use Rattle.std.proofs.Common.{◌≡◌, pos, drop}
use Rattle.row_model.specs.Change.{grown, last_rowid}
use Rattle.shadow_records.specs.PlacedTables.{plain}
use Rattle.table_version.specs.Versions.{KeepsOrigin}
use Rattle.table_writes.specs.Writing.{elsewhere_of}
use Rattle.table_writes.proofs.insert.add_groups.Given as goal

abbrev pub invariant-loop-given : goal.invariant-loop-given
invariant-loop-given l = record {
  grown : grown (elsewhere_of l.beside) l.places (plain l.initial.table.table) l.rows ≡ grown (elsewhere_of l.beside) l.places (plain l.table.table) (drop l.given-index l.rows);
  last : last_rowid (pos 0) l.places (plain l.initial.table.table) l.rows ≡ last_rowid l.last l.places (plain l.table.table) (drop l.given-index l.rows);
  name : l.table.table.name ≡ l.initial.table.table.name;
  schema : l.table.table.schema ≡ l.initial.table.table.schema;
  origin : KeepsOrigin l.initial.table l.table;
}
