use Rattle.std.proofs.Common.{◌-◌, ◌≤◌}
use Rattle.table_answers.proofs.CountLaws.{IsCounted}
use Rattle.table_answers.proofs.scan.count_upto.Given as goal

abbrev pub invariant-loop-count : goal.invariant-loop-count
invariant-loop-count g l = record { counted : IsCounted (g.V.RowSource.rows l.source) l.after l.count; within : l.count ≤ l.most }

abbrev pub decreases-loop-count : goal.decreases-loop-count
decreases-loop-count g l = l.most - l.count
