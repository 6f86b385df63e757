use Rattle.std.proofs.Common.{◌≡◌, ℤ, take}
use Rattle.std.specs.Prelude.{sum_by}
use Rattle.shadow_records.specs.PlacedTables.{row_of}
use Rattle.table_writes.specs.inner.Capped.{capped}
use Rattle.table_writes.specs.inner.NewValues.{gone_at}
use Rattle.table_writes.proofs.sets.all_gone.Given as goal

abbrev pub invariant-loop-rowid : goal.invariant-loop-rowid
invariant-loop-rowid l = l.total ≡ capped (sum_by (λ (i : ℤ). gone_at l.table.table.schema.columns l.sets (row_of l.table.table.rows i)) (take l.rowid-index l.rowids))
