use Rattle.std.proofs.Common.{◌≡◌, ◌++◌, drop, map}
use Rattle.vec0_columns.specs.ColumnGrammar.{columns_of}
use Rattle.vec0_columns.specs.inner.NarrowedNumbers.{narrow_arg}
use Rattle.vec0_columns.proofs.meaning.columns_of.Given as goal

abbrev pub invariant-loop-arg : goal.invariant-loop-arg
invariant-loop-arg l = l.columns ++ columns_of (map narrow_arg (drop l.arg-index l.args)) ≡ columns_of (map narrow_arg l.args)
