use Rattle.std.proofs.Common.{drop}
use Rattle.shadow_records.specs.PlacedTables.{PlacedTable}
use Rattle.table_attach.specs.inner.Filling.{Fails, Fills}
use Rattle.table_attach.proofs.fill.fill.Given as goal

abbrev pub invariant-loop-kept : goal.invariant-loop-kept
invariant-loop-kept l = record {
  filled : (new : PlacedTable) → Fills l.number l.records l.table.table (drop l.kept-index l.records) new → Fills l.number l.records l.initial.table.table l.records new;
  failed : Fails l.number l.records l.table.table (drop l.kept-index l.records) → Fails l.number l.records l.initial.table.table l.records;
}
