use Rattle.std.proofs.Common.{◌≡◌, drop, map}
use Rattle.vec0_columns.specs.ColumnGrammar.{first_or, sizes_of}
use Rattle.vec0_columns.specs.inner.NarrowedNumbers.{narrow_arg}
use Rattle.vec0_columns.proofs.meaning.chunk_size.Given as goal

abbrev pub invariant-loop-arg : goal.invariant-loop-arg
invariant-loop-arg l = first_or 1024 (sizes_of (map narrow_arg (drop l.arg-index l.args))) ≡ first_or 1024 (sizes_of (map narrow_arg l.args))
