use Rattle.std.proofs.Common.{◌≡◌}
use Rattle.kept_tests.specs.Columns.{two_columns}
use Rattle.kept_tests.proofs.twelve.insert_all.Given as goal

abbrev pub invariant-loop-first : goal.invariant-loop-first
invariant-loop-first l = l.version.table.schema.columns ≡ two_columns
