use Rattle.std.proofs.Common.{◌≡◌, take}
use Rattle.row_model.specs.Change.{kept}
use Rattle.plain_engine.proofs.update.kept.Given as goal

abbrev pub invariant-loop-row : goal.invariant-loop-row
invariant-loop-row l = l.new ≡ kept l.columns l.delete (take l.row-index l.rows)
