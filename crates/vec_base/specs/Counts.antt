-- Counts that are kept in 64 bits: one that would pass the last number stays there.
use Rattle.std.specs.Prelude.{ℕ, ◌+◌, min}
use Rattle.vec_base.specs.declared.limits.TheConstants.{LAST_COUNT}

abbrev pub summed : ℕ → ℕ → ℕ
summed count more = min (count + more) LAST_COUNT

abbrev pub raised : ℕ → ℕ
raised count = summed count 1
