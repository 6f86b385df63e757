-- The fault of a text that spells no int8 vector.
use Rattle.std.specs.Prelude.{ℕ, ℤ, List}
use Rattle.vec_literal.specs.declared.int8.LitFault.{LitFault}
use Rattle.vec_literal.specs.declared.int8.LitFault.TheVariants.{Place, Range, OddHex, Memory}
use Rattle.vec_literal.specs.Int8.{SpellsList, IsInForm, IsLongestStart, IsFirstMisfit}

-- Not in the form: how much of it can go on. In the form: the index of the
-- first element that is outside the range.
abbrev pub IsInt8Fault : List ℕ → LitFault → Type 0
IsInt8Fault text (Place n) = (IsInForm text → ⊥) × IsLongestStart text n
IsInt8Fault text (Range index) = (elements : List ℤ) × SpellsList text elements × IsFirstMisfit elements index
IsInt8Fault text OddHex = ⊥
IsInt8Fault text Memory = ⊥
