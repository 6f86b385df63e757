-- The order of values is total and tells values apart.
use Rattle.std.proofs.Common.{◌≡◌, ℕ, zero, suc, ℤ, List, [], ◌∷◌, Bool, true, refl, sym, ap, ap₂, ◌∙◌, Less, Equal, Greater}
use Rattle.std.specs.Cmp.{IsTotalOrder}
use Rattle.std.specs.Cmp.Lexicographic.{slice_cmp}
use Rattle.std.specs.Ordering.{int_cmp, nat_cmp, is_eq, ordering_then}
use Rattle.std.specs.declared.cmp.Ordering.{Ordering}
use Rattle.std.proofs.lemmas.Bool.Decides.{Decides-int_eq}
use Rattle.std.proofs.lemmas.Cmp.{on_total, then_total, lists_total, nat_cmp_total, int_cmp_total, nat_list_cmp_total, ranked, tied_itself}
use Rattle.vec_base.specs.declared.value.Value.{Value}
use Rattle.vec_base.specs.declared.value.Value.TheVariants.{Null, Int, Text, Blob, Int8, Bits}
use Rattle.slot_alloc.specs.inner.Orders.{kind_of, number_of, bytes_of, value_cmp}

value_total : IsTotalOrder value_cmp
value_total = then_total (on_total kind_of nat_cmp_total) (then_total (on_total number_of int_cmp_total) (on_total bytes_of nat_list_cmp_total))

pub values_total : IsTotalOrder (slice_cmp value_cmp)
values_total = lists_total value_total

-- both orders say that two things are equal, where the first and then the second does
pub record AreBothEqual (a b : Ordering) : Type 0 where
  pub first : a ≡ Equal
  pub second : b ≡ Equal

pub then_equal : (a b : Ordering) → ordering_then a b ≡ Equal → AreBothEqual a b
then_equal Less b e = absurd cc
then_equal Equal b e = record { first = refl; second = e }
then_equal Greater b e = absurd cc

pub same_number : (a b : ℕ) → nat_cmp a b ≡ Equal → a ≡ b
same_number a b e = ranked a b Equal (sym e)

same_int : (a b : ℤ) → int_cmp a b ≡ Equal → a ≡ b
same_int a b e = (Decides-int_eq a b).0 (ap is_eq e)

-- lists are equal where an order that tells elements apart says so
same_list : {A : Type 0} (R : A → A → Ordering) → ((x y : A) → R x y ≡ Equal → x ≡ y) → (xs ys : List A) → slice_cmp R xs ys ≡ Equal → xs ≡ ys
same_list R same [] [] e = refl
same_list R same [] (y ∷ ys) e = absurd cc
same_list R same (x ∷ xs) [] e = absurd cc
same_list R same (x ∷ xs) (y ∷ ys) e =
    let parts = then_equal (R x y) (slice_cmp R xs ys) e in
    ap₂ (λ z zs. z ∷ zs) (same x y parts.first) (same_list R same xs ys parts.second)

-- the value of a kind with this number or these bytes
rebuilt : ℕ → ℤ → List ℕ → Value
rebuilt zero number bytes = Null
rebuilt (suc zero) number bytes = Int number
rebuilt (suc (suc zero)) number bytes = Text bytes
rebuilt (suc (suc (suc zero))) number bytes = Blob bytes
rebuilt (suc (suc (suc (suc zero)))) number bytes = Int8 bytes
rebuilt (suc (suc (suc (suc (suc kind))))) number bytes = Bits bytes

is_rebuilt : (v : Value) → rebuilt (kind_of v) (number_of v) (bytes_of v) ≡ v
unfolding rebuilt
is_rebuilt Null = refl
is_rebuilt (Int number) = refl
is_rebuilt (Text bytes) = refl
is_rebuilt (Blob bytes) = refl
is_rebuilt (Int8 bytes) = refl
is_rebuilt (Bits bytes) = refl

same_value : (v w : Value) → value_cmp v w ≡ Equal → v ≡ w
same_value v w e =
    let kinds = then_equal (nat_cmp (kind_of v) (kind_of w)) _ e in
    let rest = then_equal (int_cmp (number_of v) (number_of w)) (slice_cmp nat_cmp (bytes_of v) (bytes_of w)) kinds.second in
    sym (is_rebuilt v)
    ∙ (λ i. rebuilt (same_number (kind_of v) (kind_of w) kinds.first i) (same_int (number_of v) (number_of w) rest.first i) (same_list nat_cmp same_number (bytes_of v) (bytes_of w) rest.second i))
    ∙ is_rebuilt w

pub same_values : (v w : List Value) → slice_cmp value_cmp v w ≡ Equal → v ≡ w
same_values = same_list value_cmp same_value

pub equal_itself : (v : List Value) → slice_cmp value_cmp v v ≡ Equal
equal_itself v = tied_itself values_total v

-- equal values are those that the order does not tell apart
pub decided : (v w : List Value) (r : Bool) → r ≡ is_eq (slice_cmp value_cmp v w) → (r ≡ true → v ≡ w) × (v ≡ w → r ≡ true)
decided v w r e = (λ t. same_values v w (from_test (slice_cmp value_cmp v w) (sym e ∙ t)), λ same. e ∙ ap is_eq (ap (λ u. slice_cmp value_cmp v u) (sym same) ∙ equal_itself v))
  where
    from_test : (o : Ordering) → is_eq o ≡ true → o ≡ Equal
    from_test Less t = absurd cc
    from_test Equal t = refl
    from_test Greater t = absurd cc
