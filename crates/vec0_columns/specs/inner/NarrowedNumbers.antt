-- Parts of a column text with their numbers in 16 bits: greater ones are kept as the greatest number that 16 bits hold. No
-- rule of schemas tells the two apart.
use Rattle.std.specs.Prelude.{ℕ, if◌then◌else◌, nat_le}
use Rattle.vec0_columns.specs.declared.text.Spelled.{Spelled}
use Rattle.vec0_columns.specs.declared.text.Spelled.TheVariants.{Int8, Bits, Plain}
use Rattle.vec0_columns.specs.declared.text.Arg.{Arg}
use Rattle.vec0_columns.specs.declared.text.Arg.TheVariants as args

abbrev pub greatest : ℕ
greatest = 65535

abbrev pub narrow : ℕ → ℕ
narrow n = if nat_le n greatest then n else greatest

abbrev pub narrow_spelled : Spelled → Spelled
narrow_spelled (Int8 n m) = Int8 (narrow n) m
narrow_spelled (Bits n m) = Bits (narrow n) m
narrow_spelled (Plain kind) = Plain kind

abbrev pub narrow_arg : Arg → Arg
narrow_arg (args.Column name spelled) = args.Column name (narrow_spelled spelled)
narrow_arg (args.ChunkSize n) = args.ChunkSize (narrow n)
