-- Kept records: a finite map from keys to bodies.
use Rattle.std.specs.Prelude.{ℕ, ℤ, Bool, List}
use Rattle.std.specs.FinMap.{FinMap, empty}
use Rattle.std.specs.Ordering.{nat_cmp, int_cmp, ordering_then, eq_by_cmp}
use Rattle.std.specs.declared.cmp.Ordering.{Ordering}
use Rattle.vec_base.specs.declared.shadow.ShadowKey.{ShadowKey}

-- by the table's number, then by the kind, then by the two numbers
abbrev pub key_cmp : ShadowKey → ShadowKey → Ordering
key_cmp x y = ordering_then (nat_cmp x.table y.table) (ordering_then (nat_cmp x.kind y.kind) (ordering_then (int_cmp x.a y.a) (int_cmp x.b y.b)))

abbrev pub is_key : ShadowKey → ShadowKey → Bool
is_key x y = eq_by_cmp key_cmp x y

abbrev pub Tables : Type 0
Tables = FinMap {K = ShadowKey} key_cmp (List ℕ)

abbrev pub no_records : Tables
no_records = empty

abbrev pub key_of : ℕ → ℕ → ℤ → ℤ → ShadowKey
key_of number kind a b = record { table = number; kind = kind; a = a; b = b }
