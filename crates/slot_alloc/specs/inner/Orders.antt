-- A strict total order of values: by kinds, then by numbers, then by bytes.
use Rattle.std.specs.Prelude.{ℕ, ℤ, pos, List, []}
use Rattle.std.specs.Cmp.Lexicographic.{slice_cmp}
use Rattle.std.specs.Ordering.{int_cmp, nat_cmp, on, then_cmp}
use Rattle.std.specs.declared.cmp.Ordering.{Ordering}
use Rattle.vec_base.specs.declared.value.Value.{Value}
use Rattle.vec_base.specs.declared.value.Value.TheVariants.{Null, Int, Text, Blob, Int8, Bits}

abbrev pub kind_of : Value → ℕ
kind_of Null = 0
kind_of (Int _) = 1
kind_of (Text _) = 2
kind_of (Blob _) = 3
kind_of (Int8 _) = 4
kind_of (Bits _) = 5

abbrev pub number_of : Value → ℤ
number_of Null = pos 0
number_of (Int number) = number
number_of (Text _) = pos 0
number_of (Blob _) = pos 0
number_of (Int8 _) = pos 0
number_of (Bits _) = pos 0

abbrev pub bytes_of : Value → List ℕ
bytes_of Null = []
bytes_of (Int _) = []
bytes_of (Text bytes) = bytes
bytes_of (Blob bytes) = bytes
bytes_of (Int8 bytes) = bytes
bytes_of (Bits bytes) = bytes

abbrev pub value_cmp : Value → Value → Ordering
value_cmp = then_cmp (on kind_of nat_cmp) (then_cmp (on number_of int_cmp) (on bytes_of (slice_cmp nat_cmp)))
