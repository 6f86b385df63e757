use Rattle.std.proofs.Common.{◌≡◌}
use Rattle.kept_tests.specs.Columns.{two_columns}
use Rattle.kept_tests.proofs.twelve.remove_all.Given as goal

abbrev pub invariant-loop-rowid : goal.invariant-loop-rowid
invariant-loop-rowid l = l.version.table.schema.columns ≡ two_columns
