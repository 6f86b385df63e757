-- How many rowids are behind one.
use Rattle.std.proofs.Common.{◌≡◌, ℕ, ◌+◌, ◌-◌, ◌<◌, ℤ, pos, negsuc, int_lt, true, Option, Some, None, arith}
use Rattle.std.specs.Prelude.{FitsSigned}
use Rattle.std.specs.Int.{w64}
use Rattle.std.proofs.lemmas.Bool.{false≢true, ltb-true}
use Rattle.row_index.specs.Entries.{is_behind}

abbrev pub rowid_left : ℤ → ℕ
rowid_left (pos n) = 9223372036854775808 - n
rowid_left (negsuc n) = 9223372036854775809 + n

abbrev pub rows_left : Option ℤ → ℕ
rows_left None = 18446744073709551620
rows_left (Some rowid) = rowid_left rowid

less_left : (l r : ℤ) → int_lt l r ≡ true → FitsSigned w64 r → rowid_left r < rowid_left l
less_left (pos m) (pos n) e fits = let less = ltb-true m n e in omega (arith, less, fits)
less_left (pos m) (negsuc n) e fits = absurd (false≢true e)
less_left (negsuc m) (pos n) e fits = omega arith
less_left (negsuc m) (negsuc n) e fits = let less = ltb-true n m e in omega (arith, less)

most_left : (r : ℤ) → FitsSigned w64 r → rowid_left r < 18446744073709551620
most_left (pos n) fits = omega arith
most_left (negsuc n) fits = omega (arith, fits)

pub behind_left : (last : Option ℤ) (rowid : ℤ) → is_behind last rowid ≡ true → FitsSigned w64 rowid → rows_left (Some rowid) < rows_left last
behind_left None rowid behind fits = most_left rowid fits
behind_left (Some l) rowid behind fits = less_left l rowid behind fits
