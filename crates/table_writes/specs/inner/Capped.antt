-- Bytes counted in 64 bits.
use Rattle.std.specs.Prelude.{ℕ, min}
use Rattle.vec_base.specs.declared.limits.TheConstants.{LAST_COUNT}

-- `LAST_COUNT` stands for every greater number too
abbrev pub capped : ℕ → ℕ
capped n = min n LAST_COUNT
