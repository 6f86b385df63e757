use Rattle.std.proofs.Common.{◌≡◌, take}
use Rattle.plain_engine.proofs.copies.copied_rows.Given as goal

abbrev pub invariant-loop-values : goal.invariant-loop-values
invariant-loop-values l = l.copies.items ≡ take l.values-index l.rows
