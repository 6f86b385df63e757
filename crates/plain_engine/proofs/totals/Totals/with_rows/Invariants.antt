use Rattle.std.proofs.Common.{◌≡◌, ◌+◌, take}
use Rattle.row_model.specs.Change.{rows_side_bytes, rows_vector_bytes}
use Rattle.plain_engine.specs.inner.ByteTotals.{capped}
use Rattle.plain_engine.proofs.totals.Totals.with_rows.Given as goal

abbrev pub invariant-loop-row : goal.invariant-loop-row
invariant-loop-row l =
    (l.totals.vectors ≡ capped (l.fn.self.vectors + rows_vector_bytes (take l.row-index l.rows)))
    × (l.totals.sides ≡ capped (l.fn.self.sides + rows_side_bytes (take l.row-index l.rows)))
