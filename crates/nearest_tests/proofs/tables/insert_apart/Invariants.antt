use Rattle.std.proofs.Common.{◌≡◌}
use Rattle.nearest_tests.specs.ThreeColumns.{three_columns}
use Rattle.nearest_tests.proofs.tables.insert_apart.Given as goal

abbrev pub invariant-loop-rowid : goal.invariant-loop-rowid
invariant-loop-rowid l = l.version.table.schema.columns ≡ three_columns
