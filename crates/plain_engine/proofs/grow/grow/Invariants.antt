use Rattle.std.proofs.Common.{◌≡◌, pos, drop}
use Rattle.row_model.specs.Change.{Elsewhere, grown, last_rowid}
use Rattle.plain_engine.specs.inner.ByteTotals.{total_beside}
use Rattle.plain_engine.specs.inner.OrderedTables.{IsOrdered}
use Rattle.plain_engine.proofs.grow.grow.Given as goal

abbrev pub invariant-loop-given : goal.invariant-loop-given
invariant-loop-given l =
    IsOrdered l.table
    × ((other : Elsewhere) → l.initial.totals ≡ total_beside other l.initial.table.rows →
    (l.totals ≡ total_beside other l.table.rows)
    × (grown other l.places l.initial.table l.rows ≡ grown other l.places l.table (drop l.given-index l.rows)))
    × (last_rowid (pos 0) l.places l.initial.table l.rows ≡ last_rowid l.last l.places l.table (drop l.given-index l.rows))
