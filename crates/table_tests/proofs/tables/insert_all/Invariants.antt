use Rattle.std.proofs.Common.{◌≡◌}
use Rattle.table_tests.specs.Columns.{one_column}
use Rattle.table_tests.proofs.tables.insert_all.Given as goal

abbrev pub invariant-loop-first : goal.invariant-loop-first
invariant-loop-first l = l.version.table.schema.columns ≡ one_column
