use Rattle.std.proofs.Common.{◌≡◌, drop}
use Rattle.row_model.specs.Change.{taken_id}
use Rattle.plain_engine.proofs.insert.same_id_among.Given as goal

abbrev pub invariant-loop-row : goal.invariant-loop-row
invariant-loop-row l = taken_id l.columns l.rows l.values ≡ taken_id l.columns (drop l.row-index l.rows) l.values
