-- How values compare. Source: the type rules of SQLite's comparisons for integers, texts (BINARY collation) and blobs.
use Rattle.std.specs.Prelude.{ℕ, ℤ, Bool, false, List, Some, None}
use Rattle.std.specs.Cmp.Lexicographic.{slice_cmp}
use Rattle.std.specs.Ordering.{is_eq, is_ne, is_lt, is_le, is_gt, is_ge, int_cmp, nat_cmp}
use Rattle.std.specs.declared.cmp.Ordering.{Ordering}
use Rattle.std.specs.declared.option.Option.{Option}
use Rattle.vec_base.specs.declared.value.Op.{Op}
use Rattle.vec_base.specs.declared.value.Op.TheVariants.{Eq, Ne, Lt, Le, Gt, Ge}
use Rattle.vec_base.specs.declared.value.Value.{Value}
use Rattle.vec_base.specs.declared.value.Value.TheVariants.{Int, Text, Blob}

-- texts and blobs by their bytes: the first that differs decides, and a front of a list is less than the list
abbrev pub bytes_cmp : List ℕ → List ℕ → Ordering
bytes_cmp a b = slice_cmp nat_cmp a b

-- how a number, a text and a blob stand to a constant, if they compare
abbrev pub int_to : ℤ → Value → Option Ordering
int_to a (Int b) = Some (int_cmp a b)
int_to a _ = None

abbrev pub text_to : List ℕ → Value → Option Ordering
text_to a (Text b) = Some (bytes_cmp a b)
text_to a _ = None

abbrev pub blob_to : List ℕ → Value → Option Ordering
blob_to a (Blob b) = Some (bytes_cmp a b)
blob_to a _ = None

-- How a value stands to a constant: numbers as numbers, texts and blobs by their bytes. NULL and vectors stand to nothing.
abbrev pub compared : Value → Value → Option Ordering
compared (Int a) constant = int_to a constant
compared (Text a) constant = text_to a constant
compared (Blob a) constant = blob_to a constant
compared _ constant = None

abbrev pub holds : Op → Ordering → Bool
holds Eq order = is_eq order
holds Ne order = is_ne order
holds Lt order = is_lt order
holds Le order = is_le order
holds Gt order = is_gt order
holds Ge order = is_ge order

abbrev pub holds_of : Op → Option Ordering → Bool
holds_of op None = false
holds_of op (Some order) = holds op order

-- the value stands to the constant as the operator says
abbrev pub satisfies : Op → Value → Value → Bool
satisfies op value constant = holds_of op (compared value constant)
