use Rattle.std.proofs.Common.{◌≡◌, take}
use Rattle.row_model.specs.Change.{updated}
use Rattle.plain_engine.proofs.update.updated.Given as goal

abbrev pub invariant-loop-row : goal.invariant-loop-row
invariant-loop-row l = l.new.items ≡ updated l.columns l.update (take l.row-index l.rows)
