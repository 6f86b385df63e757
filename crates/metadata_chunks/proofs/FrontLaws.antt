-- The first bytes of texts decide how the texts compare, unless they are the same.
use Rattle.std.proofs.Common.{◌≡◌, ◌≤◌, ◌<◌, ◌++◌, ℕ, false, zero, suc, List, [], ◌∷◌, length, take, drop, replicate, refl, sym, ap, ◌∙◌, arith}
use Rattle.std.specs.Ordering.{nat_cmp, ordering_then, is_eq, is_lt, is_gt, MatchOrdering}
use Rattle.std.specs.Cmp.{nat_cmp_is, ranks}
use Rattle.std.specs.declared.cmp.Ordering.{Ordering}
use Rattle.std.specs.declared.cmp.Ordering.TheVariants.{Less, Equal, Greater}
use Rattle.std.proofs.lemmas.Map.Lookups.{exact_bytes}
use Rattle.vec_base.specs.Comparison.{bytes_cmp}
use Rattle.metadata_chunks.specs.inner.Fronts.{front_of}

-- ---- fronts as fillings

pub filled : (n m : ℕ) (text : List ℕ) → n ≤ m → front_of n text ≡ take n (text ++ replicate m 0)
filled zero m text le = refl
filled (suc n) zero text le = absurd (omega (arith, le))
filled (suc n) (suc m) [] le = ap (λ bytes. 0 ∷ bytes) (filled n m [] (omega (arith, le)))
filled (suc n) (suc m) (byte ∷ text) le = ap (λ bytes. byte ∷ bytes) (filled n (suc m) text (omega (arith, le)))

pub written_short : (n : ℕ) (text : List ℕ) → length text ≤ n → front_of n text ≡ text ++ drop (length text) (replicate n 0)
written_short zero [] le = refl
written_short zero (byte ∷ text) le = absurd (omega (arith, le))
written_short (suc n) [] le = ap (λ bytes. 0 ∷ bytes) (written_short n [] (omega arith))
written_short (suc n) (byte ∷ text) le = ap (λ bytes. byte ∷ bytes) (written_short n text (omega (arith, le)))

pub written_long : (n : ℕ) (text : List ℕ) → n ≤ length text → front_of n text ≡ take n text
written_long zero text le = refl
written_long (suc n) [] le = absurd (omega (arith, le))
written_long (suc n) (byte ∷ text) le = ap (λ bytes. byte ∷ bytes) (written_long n text (omega (arith, le)))

-- a short text is read back
pub read_back : (n : ℕ) (text : List ℕ) → length text ≤ n → take (length text) (front_of n text) ≡ text
read_back n [] le = refl
read_back zero (byte ∷ text) le = absurd (omega (arith, le))
read_back (suc n) (byte ∷ text) le = ap (λ bytes. byte ∷ bytes) (read_back n text (omega (arith, le)))

-- ---- order

below : (x y : ℕ) → x < y → nat_cmp x y ≡ Less
below x y lt = sym (nat_cmp_is x y Less lt)

above : (x y : ℕ) → y < x → nat_cmp x y ≡ Greater
above x y lt = sym (nat_cmp_is x y Greater lt)

-- a front of zeros is not above another one
zeros_low : (n : ℕ) (text : List ℕ) → is_gt (bytes_cmp (front_of n []) (front_of n text)) ≡ false
zeros_low zero text = refl
zeros_low (suc n) [] = zeros_low n []
zeros_low (suc n) (zero ∷ text) = zeros_low n text
zeros_low (suc n) (suc byte ∷ text) = ap (λ o. is_gt (ordering_then o (bytes_cmp (front_of n []) (front_of n text)))) (below 0 (suc byte) (omega arith))

zeros_high : (n : ℕ) (text : List ℕ) → is_lt (bytes_cmp (front_of n text) (front_of n [])) ≡ false
zeros_high zero text = refl
zeros_high (suc n) [] = zeros_high n []
zeros_high (suc n) (zero ∷ text) = zeros_high n text
zeros_high (suc n) (suc byte ∷ text) = ap (λ o. is_lt (ordering_then o (bytes_cmp (front_of n text) (front_of n [])))) (above (suc byte) 0 (omega arith))

is_less : (o : Ordering) → is_eq o ≡ false → is_gt o ≡ false → Less ≡ o
is_less Less apart low = refl
is_less Equal apart low = absurd cc
is_less Greater apart low = absurd cc

is_greater : (o : Ordering) → is_eq o ≡ false → is_lt o ≡ false → Greater ≡ o
is_greater Less apart high = absurd cc
is_greater Equal apart high = absurd cc
is_greater Greater apart high = refl

deeper : (o p q : Ordering) → (is_eq q ≡ false → p ≡ q) → is_eq (ordering_then o q) ≡ false → ordering_then o p ≡ ordering_then o q
deeper Less p q same apart = refl
deeper Equal p q same apart = same apart
deeper Greater p q same apart = refl

-- where the fronts differ, they decide
pub decided : (n : ℕ) (a b : List ℕ) → is_eq (bytes_cmp (front_of n a) (front_of n b)) ≡ false → bytes_cmp a b ≡ bytes_cmp (front_of n a) (front_of n b)
decided zero a b apart = absurd cc
decided (suc n) [] [] apart = decided n [] [] apart
decided (suc n) [] (zero ∷ b) apart = is_less (bytes_cmp (front_of n []) (front_of n b)) apart (zeros_low n b)
decided (suc n) [] (suc y ∷ b) apart = sym (ap (λ o. ordering_then o (bytes_cmp (front_of n []) (front_of n b))) (below 0 (suc y) (omega arith)))
decided (suc n) (zero ∷ a) [] apart = is_greater (bytes_cmp (front_of n a) (front_of n [])) apart (zeros_high n a)
decided (suc n) (suc x ∷ a) [] apart = sym (ap (λ o. ordering_then o (bytes_cmp (front_of n a) (front_of n []))) (above (suc x) 0 (omega arith)))
decided (suc n) (x ∷ a) (y ∷ b) apart = deeper (nat_cmp x y) (bytes_cmp a b) (bytes_cmp (front_of n a) (front_of n b)) (decided n a b) apart

level : (x y : ℕ) → x ≡ y → nat_cmp x y ≡ Equal
level x y same = sym (nat_cmp_is x y Equal same)

raised : (o : Ordering) (x y : ℕ) → MatchOrdering o (x < y) (x ≡ y) (y < x) → MatchOrdering o (suc x < suc y) (suc x ≡ suc y) (suc y < suc x)
raised Less x y lt = omega (arith, lt)
raised Equal x y same = ap suc same
raised Greater x y lt = omega (arith, lt)

further : (x y : ℕ) → nat_cmp x y ≡ nat_cmp (suc x) (suc y)
further x y = nat_cmp_is (suc x) (suc y) (nat_cmp x y) (raised (nat_cmp x y) x y (ranks x y))

abbrev first_of : List ℕ → ℕ
first_of [] = 0
first_of (x ∷ xs) = x

-- where they are the same, and one is all of its text, the lengths decide
pub counted : (n : ℕ) (a b : List ℕ) → front_of n a ≡ front_of n b → length a ≤ n → bytes_cmp a b ≡ nat_cmp (length a) (length b)
counted n [] [] same short = refl
counted n [] (y ∷ b) same short = sym (below 0 (suc (length b)) (omega arith))
counted n (x ∷ a) [] same short = sym (above (suc (length a)) 0 (omega arith))
counted zero (x ∷ a) (y ∷ b) same short = absurd (omega (arith, short))
counted (suc n) (x ∷ a) (y ∷ b) same short =
    let first : x ≡ y = ap first_of same in
    ap (λ o. ordering_then o (bytes_cmp a b)) (level x y first)
    ∙ counted n a b (ap (drop 1) same) (omega (arith, short))
    ∙ further (length a) (length b)

-- bytes that compare as equal are the same
pub same_fronts : (a b : List ℕ) → bytes_cmp a b ≡ Equal → a ≡ b
same_fronts a b is = exact_bytes a b is

pub unequal : (o : Ordering) → (o ≡ Equal → ⊥) → is_eq o ≡ false
unequal Less apart = refl
unequal Equal apart = absurd (apart refl)
unequal Greater apart = refl
