use Rattle.std.proofs.Common.{◌≡◌, ◌+◌, ◌*◌, ◌≤◌, map, take}
use Rattle.table_answers.specs.Reads.{row_reads}
use Rattle.table_answers.specs.inner.HitRows.{hit_items}
use Rattle.table_answers.proofs.nearest.hit_rows.Given as goal

abbrev pub invariant-loop-hit : goal.invariant-loop-hit
invariant-loop-hit l = record {
  rows : l.rows.items ≡ map (hit_items l.table.table l.plan.select.items) (take l.hit-index l.hits);
  reads : l.steps.reads ≤ l.fn.steps.reads + l.hit-index * row_reads l.table.table l.plan.select;
  pieces : l.steps.pieces ≡ l.fn.steps.pieces;
}
