-- Binary search: what one comparison says of the items in front of an item, or behind it.
use Rattle.std.proofs.Common.{◌≡◌, ℕ, ◌+◌, ◌<◌, ◌≤◌, true, List, length, Less, Equal, Greater, refl, ap, arith}
use Rattle.std.specs.List.{AllWithin}
use Rattle.std.specs.List.Sorted.{IsNonDecreasingBy}
use Rattle.std.specs.Ordering.{ordering_index, is_lt}
use Rattle.std.specs.declared.cmp.Ordering.{Ordering}
use Rattle.std.proofs.Common.{get_or}
use Rattle.std.proofs.lemmas.List.{get_or_read}

less_from_index : (o : Ordering) → ordering_index o ≤ 0 → o ≡ Less
less_from_index Less at_most = refl
less_from_index Equal at_most = absurd (omega arith)
less_from_index Greater at_most = absurd (omega arith)

greater_from_index : (o : Ordering) → 2 ≤ ordering_index o → o ≡ Greater
greater_from_index Less at_least = absurd (omega arith)
greater_from_index Equal at_least = absurd (omega arith)
greater_from_index Greater at_least = refl

pub less_from_test : (o : Ordering) → is_lt o ≡ true → o ≡ Less
less_from_test Less test = refl
less_from_test Equal test = absurd cc
less_from_test Greater test = absurd cc

-- an item that compares as less, and all in front of it
pub less_upto : {A : Type 0} (compared : A → Ordering) (xs : List A) (i : ℕ) (x : A) → IsNonDecreasingBy (λ y. ordering_index (compared y)) xs → i < length xs → x ≡ get_or xs i x → compared x ≡ Less → AllWithin (λ y. compared y ≡ Less) xs 0 (i + 1)
less_upto compared xs i x rising lt is less k d low high =
    let here = ap (λ y. ordering_index (compared y)) (get_or_read xs i x lt is d) in
    let index = ap ordering_index less in
    less_from_index (compared (get_or xs k d)) (omega (arith, rising k i d (omega arith) lt, here, index))

-- an item that compares as greater, and all behind it
pub greater_from : {A : Type 0} (compared : A → Ordering) (xs : List A) (i : ℕ) (x : A) → IsNonDecreasingBy (λ y. ordering_index (compared y)) xs → i < length xs → x ≡ get_or xs i x → compared x ≡ Greater → AllWithin (λ y. compared y ≡ Greater) xs i (length xs)
greater_from compared xs i x rising lt is greater k d low high =
    let here = ap (λ y. ordering_index (compared y)) (get_or_read xs i x lt is d) in
    let index = ap ordering_index greater in
    greater_from_index (compared (get_or xs k d)) (omega (arith, rising i k d low high, here, index))
