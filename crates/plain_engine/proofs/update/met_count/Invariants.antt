use Rattle.std.proofs.Common.{◌≡◌, ◌≤◌, take, length}
use Rattle.row_model.specs.Values.{met}
use Rattle.plain_engine.proofs.update.met_count.Given as goal

abbrev pub invariant-loop-row : goal.invariant-loop-row
invariant-loop-row l = (l.count ≡ length (met l.columns l.terms (take l.row-index l.rows))) × (l.count ≤ l.row-index)
