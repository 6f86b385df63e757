-- Truth values in bytes: where they stand, and what a change of one byte makes of them.
use Rattle.std.proofs.Common.{◌++◌, ◌-◌, ◌^◌, ◌≤◌, ◌&&◌, not, cond, zero, min, Some, None, drop, replicate, length-append, ◌≡◌, ◌≢◌, ⊎_elim, ℕ, suc, ◌∷◌, ap₂, ◌+◌, ◌*◌, ◌/◌, ◌%◌, ◌<◌, ◌==◌, Bool, true, false, List, [], length, get_or, set, sym, ap, ◌∙◌, refl, arith, length-set}
use Rattle.std.specs.Int.{bit_at}
use Rattle.std.specs.Int.RustNames.{count_ones, bit_and}
use Rattle.std.specs.List.{count_by, position_from}
use Rattle.std.specs.Simd.Lanes.{zip2}
use Rattle.std.proofs.Math.Nat.{div-div-eq-div-mul}
use Rattle.std.proofs.lemmas.Nat.{ones_cat, pow-add}
use Rattle.std.proofs.lemmas.List.Sums.{sum_by-append}
use Rattle.std.proofs.lemmas.Nat.Bits.{bit_at_and, bit_at-lt, bit_at-zero, bit_at_ones, bit_at_above}
use Rattle.std.proofs.lemmas.Simd.{get_or-zip2, length-zip2}
use Rattle.std.proofs.lemmas.Bool.{cases_eq, cases_lt}
use Rattle.std.proofs.lemmas.List.{get_or-set_same, get_or-set_other, length-drop, get_or-drop, get_or_append_left, get_or-append-add, get_or-replicate, length-replicate}
use Rattle.std.proofs.lemmas.List.FromFn.{length-map-range_with_len, get_or-map-range_with_len}
use Rattle.chunk_bitmap.specs.BitsOfBytes.{is_set_in, bits_of, first_clear_of, next_set_of}

pub length_bits : (bytes : List ℕ) → length (bits_of bytes) ≡ 8 * length bytes
length_bits bytes = length-map-range_with_len (is_set_in bytes) 0 (8 * length bytes)

pub get_or-bits : (bytes : List ℕ) (i : ℕ) (d : Bool) → i < 8 * length bytes → get_or (bits_of bytes) i d ≡ is_set_in bytes i
get_or-bits bytes i d lt = get_or-map-range_with_len (is_set_in bytes) 0 (8 * length bytes) i i d lt (let e : 0 + i ≡ i = omega arith in e)

-- lists of truth values that agree at each place
pub same_bits : (xs ys : List Bool) → length xs ≡ length ys → ((k : ℕ) → k < length xs → get_or xs k false ≡ get_or ys k false) → xs ≡ ys
same_bits [] [] n h = refl
same_bits [] (y ∷ ys) n h = absurd (omega (arith, n))
same_bits (x ∷ xs) [] n h = absurd (omega (arith, n))
same_bits (x ∷ xs) (y ∷ ys) n h = ap₂ (λ a rest. a ∷ rest) (h 0 (omega arith)) (same_bits xs ys (omega (arith, n)) (λ k lt. h (suc k) (omega (arith, lt))))

-- the bytes with one changed: the place gets the value, and all others keep theirs
changed_at : (bytes : List ℕ) (i b : ℕ) (v : Bool) → i < 8 * length bytes → (bit_at b (i % 8) == 1) ≡ v →
    ((j : ℕ) → j < 8 → j ≢ i % 8 → bit_at b j ≡ bit_at (get_or bytes (i / 8) 0) j) → (k : ℕ) → k < 8 * length bytes →
    is_set_in (set bytes (i / 8) b) k ≡ get_or (set (bits_of bytes) i v) k false
changed_at bytes i b v lt same other k within =
    ⊎_elim
    (λ (e : k ≡ i).
    ap (λ n. is_set_in (set bytes (i / 8) b) n) e
    ∙ ap (λ n. bit_at n (i % 8) == 1) (get_or-set_same bytes (i / 8) b 0 (omega (arith, lt)))
    ∙ same
    ∙ sym (get_or-set_same (bits_of bytes) i v false (omega (arith, lt, length_bits bytes)))
    ∙ ap (λ n. get_or (set (bits_of bytes) i v) n false) (sym e))
    (λ (n : k ≡ i → ⊥).
    ⊎_elim
    (λ (e : k / 8 ≡ i / 8).
    ap (λ m. bit_at (get_or (set bytes (i / 8) b) m 0) (k % 8) == 1) e
    ∙ ap (λ m. bit_at m (k % 8) == 1) (get_or-set_same bytes (i / 8) b 0 (omega (arith, lt)))
    ∙ ap (λ m. m == 1) (other (k % 8) (omega arith) (λ (h : k % 8 ≡ i % 8). n (omega (arith, h, e))))
    ∙ ap (λ m. bit_at (get_or bytes m 0) (k % 8) == 1) (sym e))
    (λ (h : k / 8 ≡ i / 8 → ⊥). ap (λ m. bit_at m (k % 8) == 1) (get_or-set_other bytes (i / 8) (k / 8) b 0 h))
    (cases_eq (k / 8) (i / 8))
    ∙ sym (get_or-bits bytes k false within)
    ∙ sym (get_or-set_other (bits_of bytes) i k v false n))
    (cases_eq k i)

pub changed : (bytes : List ℕ) (i b : ℕ) (v : Bool) → i < 8 * length bytes → (bit_at b (i % 8) == 1) ≡ v →
    ((j : ℕ) → j < 8 → j ≢ i % 8 → bit_at b j ≡ bit_at (get_or bytes (i / 8) 0) j) → bits_of (set bytes (i / 8) b) ≡ set (bits_of bytes) i v
changed bytes i b v lt same other =
    let n : length (bits_of (set bytes (i / 8) b)) ≡ 8 * length bytes = length_bits (set bytes (i / 8) b) ∙ ap (λ m. 8 * m) (length-set bytes (i / 8) b) in
    let m : length (set (bits_of bytes) i v) ≡ 8 * length bytes = length-set (bits_of bytes) i v ∙ length_bits bytes in
    same_bits (bits_of (set bytes (i / 8) b)) (set (bits_of bytes) i v) (n ∙ sym m)
    (λ k within.
    get_or-bits (set bytes (i / 8) b) k false (omega (arith, within, n, length-set bytes (i / 8) b))
    ∙ changed_at bytes i b v lt same other k (omega (arith, within, n)))

appended : (xs ys : List ℕ) (k : ℕ) → k < 8 * length xs + 8 * length ys → get_or (bits_of (xs ++ ys)) k false ≡ get_or (bits_of xs ++ bits_of ys) k false
appended xs ys k lt =
    let within : k < 8 * length (xs ++ ys) = omega (arith, lt, length-append xs ys) in
    ⊎_elim
    (λ (low : k < 8 * length xs).
    get_or-bits (xs ++ ys) k false within
    ∙ ap (λ n. bit_at n (k % 8) == 1) (get_or_append_left xs ys 0 (k / 8) (omega (arith, low)))
    ∙ sym (get_or-bits xs k false low)
    ∙ sym (get_or_append_left (bits_of xs) (bits_of ys) false k (omega (arith, low, length_bits xs))))
    (λ (high : 8 * length xs ≤ k).
    let j = k - 8 * length xs in
    let place : k / 8 ≡ length xs + j / 8 = omega (arith, high) in
    let bit : k % 8 ≡ j % 8 = omega (arith, high) in
    let at : length (bits_of xs) + j ≡ k = omega (arith, high, length_bits xs) in
    get_or-bits (xs ++ ys) k false within
    ∙ ap (λ n. bit_at (get_or (xs ++ ys) n 0) (k % 8) == 1) place
    ∙ ap (λ n. bit_at n (k % 8) == 1) (get_or-append-add xs ys (j / 8) 0)
    ∙ ap (λ n. bit_at (get_or ys (j / 8) 0) n == 1) bit
    ∙ sym (get_or-bits ys j false (omega (arith, lt, high)))
    ∙ sym (get_or-append-add (bits_of xs) (bits_of ys) j false)
    ∙ ap (λ n. get_or (bits_of xs ++ bits_of ys) n false) at)
    (cases_lt k (8 * length xs))

-- bytes behind others
pub bits-append : (xs ys : List ℕ) → bits_of (xs ++ ys) ≡ bits_of xs ++ bits_of ys
bits-append xs ys =
    let n : length (bits_of (xs ++ ys)) ≡ 8 * length xs + 8 * length ys = omega (arith, length_bits (xs ++ ys), length-append xs ys) in
    let m : length (bits_of xs ++ bits_of ys) ≡ 8 * length xs + 8 * length ys = omega (arith, length-append (bits_of xs) (bits_of ys), length_bits xs, length_bits ys) in
    same_bits (bits_of (xs ++ ys)) (bits_of xs ++ bits_of ys) (n ∙ sym m) (λ k lt. appended xs ys k (omega (arith, lt, n)))

-- no place is true where all bytes are zero
pub bits-zero : (n : ℕ) → bits_of (replicate n 0) ≡ replicate (8 * n) false
bits-zero n =
    let l : length (bits_of (replicate n 0)) ≡ 8 * n = length_bits (replicate n 0) ∙ ap (λ m. 8 * m) (length-replicate {A = ℕ} n 0) in
    same_bits (bits_of (replicate n 0)) (replicate (8 * n) false) (l ∙ sym (length-replicate (8 * n) false))
    (λ k lt.
    let within : k < 8 * n = omega (arith, lt, l) in
    get_or-bits (replicate n 0) k false (omega (arith, within, length-replicate {A = ℕ} n 0))
    ∙ ap (λ b. bit_at b (k % 8) == 1) (get_or-replicate {A = ℕ} n (k / 8) 0 0 (omega (arith, within)))
    ∙ ap (λ b. b == 1) (bit_at-zero (k % 8))
    ∙ sym (get_or-replicate (8 * n) k false false within))

-- what is true in both
both : (a b : ℕ) → a < 2 → b < 2 → (min a b == 1) ≡ (a == 1 && b == 1)
both zero zero l m = refl
both zero (suc zero) l m = refl
both (suc zero) zero l m = refl
both (suc zero) (suc zero) l m = refl
both (suc (suc a)) b l m = absurd (omega (arith, l))
both zero (suc (suc b)) l m = absurd (omega (arith, m))
both (suc zero) (suc (suc b)) l m = absurd (omega (arith, m))

pub bits-and : (xs ys : List ℕ) → length xs ≡ length ys → bits_of (zip2 bit_and xs ys) ≡ zip2 (λ a b. a && b) (bits_of xs) (bits_of ys)
bits-and xs ys same =
    let z : length (zip2 bit_and xs ys) ≡ length xs = length-zip2 bit_and xs ys same in
    let n : length (bits_of (zip2 bit_and xs ys)) ≡ 8 * length xs = length_bits (zip2 bit_and xs ys) ∙ ap (λ m. 8 * m) z in
    let e : length (bits_of xs) ≡ length (bits_of ys) = omega (arith, length_bits xs, length_bits ys, same) in
    let m : length (zip2 (λ a b. a && b) (bits_of xs) (bits_of ys)) ≡ 8 * length xs = length-zip2 (λ a b. a && b) (bits_of xs) (bits_of ys) e ∙ length_bits xs in
    same_bits _ _ (n ∙ sym m)
    (λ k lt.
    let within : k < 8 * length xs = omega (arith, lt, n) in
    get_or-bits (zip2 bit_and xs ys) k false (omega (arith, within, z))
    ∙ ap (λ b. bit_at b (k % 8) == 1) (get_or-zip2 bit_and xs ys (k / 8) 0 0 0 (omega (arith, within)) (omega (arith, within, same)))
    ∙ ap (λ b. b == 1) (bit_at_and (get_or xs (k / 8) 0) (get_or ys (k / 8) 0) (k % 8))
    ∙ both (bit_at (get_or xs (k / 8) 0) (k % 8)) (bit_at (get_or ys (k / 8) 0) (k % 8)) (bit_at-lt (get_or xs (k / 8) 0) (k % 8)) (bit_at-lt (get_or ys (k / 8) 0) (k % 8))
    ∙ ap₂ (λ a b. a && b) (sym (get_or-bits xs k false within)) (sym (get_or-bits ys k false (omega (arith, within, same))))
    ∙ sym (get_or-zip2 (λ a b. a && b) (bits_of xs) (bits_of ys) k false false false (omega (arith, within, length_bits xs)) (omega (arith, within, same, length_bits ys))))

-- the first place of a list that passes
pub found_first : (p : Bool → Bool) (s k : ℕ) (xs : List Bool) → k < length xs → p (get_or xs k false) ≡ true → ((j : ℕ) → j < k → p (get_or xs j false) ≡ false) → position_from p s xs ≡ Some (s + k)
found_first p s k [] lt passes fails = absurd (omega (arith, lt))
found_first p s zero (x ∷ xs) lt passes fails = rw passes (ap (λ n. Some n) (let e : s ≡ s + 0 = omega arith in e))
found_first p s (suc k) (x ∷ xs) lt passes fails =
    let first : p x ≡ false = fails 0 (omega arith) in
    rw first (found_first p (s + 1) k xs (omega (arith, lt)) passes (λ j l. fails (suc j) (omega (arith, l))) ∙ ap (λ n. Some n) (let e : (s + 1) + k ≡ s + suc k = omega arith in e))

pub found_none : (p : Bool → Bool) (s : ℕ) (xs : List Bool) → ((j : ℕ) → j < length xs → p (get_or xs j false) ≡ false) → position_from p s xs ≡ None
found_none p s [] fails = refl
found_none p s (x ∷ xs) fails =
    let first : p x ≡ false = fails 0 (omega arith) in
    rw first (found_none p (s + 1) xs (λ j l. fails (suc j) (omega (arith, l))))

-- ---- counts

count-append : (xs ys : List Bool) → count_by (λ b. b) (xs ++ ys) ≡ count_by (λ b. b) xs + count_by (λ b. b) ys
count-append xs ys = sum_by-append (λ b. cond b 1 0) xs ys

-- a bit counts for itself
one_bit : (n : ℕ) → n < 2 → cond (n == 1) 1 0 ≡ n
one_bit zero l = refl
one_bit (suc zero) l = refl
one_bit (suc (suc n)) l = absurd (omega (arith, l))

ones_bit : (n : ℕ) → n < 2 → count_ones n ≡ n
unfolding count_ones
ones_bit zero l = refl
ones_bit (suc zero) l = refl
ones_bit (suc (suc n)) l = absurd (omega (arith, l))

-- the lowest bit, and those above it
halved : (n : ℕ) → count_ones n ≡ count_ones (n / 2) + n % 2
halved n =
    let parts : n ≡ (n / 2) * 2 ^ 1 + n % 2 = omega arith in
    ap count_ones parts ∙ ones_cat 1 (n / 2) (n % 2) (omega arith) ∙ ap (λ m. count_ones (n / 2) + m) (ones_bit (n % 2) (omega arith))

-- the value of a bit of a byte
abbrev bit_count : ℕ → ℕ → ℕ
bit_count b i = cond (bit_at b i == 1) 1 0

counted : (b i : ℕ) → bit_count b i ≡ bit_at b i
counted b i = one_bit (bit_at b i) (bit_at-lt b i)

one_byte : (b : ℕ) → b < 256 → count_by (λ b. b) (bits_of (b ∷ [])) ≡ count_ones b
unfolding count_ones
one_byte b small =
    let c = bit_count b in
    let all : count_by (λ b. b) (bits_of (b ∷ [])) ≡ 0 + c 0 + c 1 + c 2 + c 3 + c 4 + c 5 + c 6 + c 7 = refl in
    let b1 = b / 2 in
    let b2 = b1 / 2 in
    let b3 = b2 / 2 in
    let b4 = b3 / 2 in
    let b5 = b4 / 2 in
    let b6 = b5 / 2 in
    let b7 = b6 / 2 in
    let last : count_ones (b7 / 2) ≡ 0 = ap count_ones (let e : b7 / 2 ≡ 0 = omega (arith, small) in e) in
    omega (
      arith,
      all,
      last,
      counted b 0,
      counted b 1,
      counted b 2,
      counted b 3,
      counted b 4,
      counted b 5,
      counted b 6,
      counted b 7,
      halved b,
      halved b1,
      halved b2,
      halved b3,
      halved b4,
      halved b5,
      halved b6,
      halved b7,
    )

-- one byte more
pub count_more : (bytes : List ℕ) (b : ℕ) → b < 256 → count_by (λ b. b) (bits_of (bytes ++ b ∷ [])) ≡ count_by (λ b. b) (bits_of bytes) + count_ones b
count_more bytes b small =
    ap (count_by (λ b. b)) (bits-append bytes (b ∷ [])) ∙ count-append (bits_of bytes) (bits_of (b ∷ []))
    ∙ ap (λ n. count_by (λ b. b) (bits_of bytes) + n) (one_byte b small)

-- ---- places by their byte and bit

pub at_byte : (bytes : List ℕ) (i t : ℕ) → t < 8 → i < length bytes → get_or (bits_of bytes) (8 * i + t) false ≡ (bit_at (get_or bytes i 0) t == 1)
at_byte bytes i t low lt =
    let place : (8 * i + t) / 8 ≡ i = omega (arith, low) in
    let bit : (8 * i + t) % 8 ≡ t = omega (arith, low) in
    get_or-bits bytes (8 * i + t) false (omega (arith, low, lt))
    ∙ ap (λ n. bit_at (get_or bytes n 0) ((8 * i + t) % 8) == 1) place
    ∙ ap (λ n. bit_at (get_or bytes i 0) n == 1) bit

set_before : (bytes : List ℕ) (i t j : ℕ) → t < 8 → i < length bytes → j < 8 * i + t → ((j : ℕ) → j < 8 * i → get_or (bits_of bytes) j false ≡ true) →
    ((j : ℕ) → j < t → bit_at (get_or bytes i 0) j ≡ 1) → get_or (bits_of bytes) j false ≡ true
set_before bytes i t j low lt l full below =
    ⊎_elim
    (λ (before : j < 8 * i). full j before)
    (λ (behind : 8 * i ≤ j).
    let place : 8 * i + (j - 8 * i) ≡ j = omega (arith, behind) in
    ap (λ n. get_or (bits_of bytes) n false) (sym place)
    ∙ at_byte bytes i (j - 8 * i) (omega (arith, behind, l, low)) lt
    ∙ ap (λ n. n == 1) (below (j - 8 * i) (omega (arith, behind, l))))
    (cases_lt j (8 * i))

-- the first place that is false, in a byte behind bytes that are full
pub first_clear_at : (bytes : List ℕ) (i t : ℕ) → t < 8 → i < length bytes → ((j : ℕ) → j < 8 * i → get_or (bits_of bytes) j false ≡ true) →
    bit_at (get_or bytes i 0) t ≡ 0 → ((j : ℕ) → j < t → bit_at (get_or bytes i 0) j ≡ 1) → first_clear_of (bits_of bytes) ≡ Some (8 * i + t)
first_clear_at bytes i t low lt full clear below =
    found_first not 0 (8 * i + t) (bits_of bytes) (omega (arith, low, lt, length_bits bytes))
    (ap not (at_byte bytes i t low lt ∙ ap (λ n. n == 1) clear))
    (λ j l. ap not (set_before bytes i t j low lt l full below))
    ∙ ap (λ n. Some n) (let e : 0 + (8 * i + t) ≡ 8 * i + t = omega arith in e)

-- one full byte more
pub full_more : (bytes : List ℕ) (i : ℕ) → i < length bytes → get_or bytes i 0 ≡ 255 → ((j : ℕ) → j < 8 * i → get_or (bits_of bytes) j false ≡ true) →
    (j : ℕ) → j < 8 * (i + 1) → get_or (bits_of bytes) j false ≡ true
full_more bytes i lt all full j l =
    ⊎_elim
    (λ (before : j < 8 * i). full j before)
    (λ (behind : 8 * i ≤ j).
    let place : 8 * i + (j - 8 * i) ≡ j = omega (arith, behind) in
    ap (λ n. get_or (bits_of bytes) n false) (sym place)
    ∙ at_byte bytes i (j - 8 * i) (omega (arith, behind, l)) lt
    ∙ ap (λ b. bit_at b (j - 8 * i) == 1) all
    ∙ ap (λ n. n == 1) (bit_at_ones 8 (j - 8 * i) (omega (arith, behind, l))))
    (cases_lt j (8 * i))

-- no place is false where all are true
pub none_clear : (bits : List Bool) → ((j : ℕ) → j < length bits → get_or bits j false ≡ true) → first_clear_of bits ≡ None
none_clear bits full = found_none not 0 bits (λ j l. ap not (full j l))

-- what stands above a place of a byte, by the byte that is shifted down
pub shifted_bit : (b k j : ℕ) → bit_at (b / 2 ^ k) j ≡ bit_at b (k + j)
shifted_bit b k j = ap (λ n. n % 2) (div-div-eq-div-mul b (2 ^ k) (2 ^ j) ∙ ap (λ n. b / n) (sym (pow-add 2 k j)))

-- what a byte has from a place on, where nothing is left of it there
pub clear_above : (b k : ℕ) → b / 2 ^ k ≡ 0 → (j : ℕ) → k ≤ j → bit_at b j ≡ 0
clear_above b k none j le =
    let place : k + (j - k) ≡ j = omega (arith, le) in
    ap (bit_at b) (sym place) ∙ sym (shifted_bit b k (j - k)) ∙ ap (λ n. bit_at n (j - k)) none ∙ bit_at-zero (j - k)

-- the lowest of the bits from a place on that is set
pub record IsLowestFrom (b k t : ℕ) : Type 0 where
  pub set : bit_at b (k + t) ≡ 1
  pub below : (j : ℕ) → k ≤ j → j < k + t → bit_at b j ≡ 0

-- a bit that is set is one of the eight
pub set_inside : (b i : ℕ) → b < 256 → bit_at b i ≡ 1 → i < 8
set_inside b i small is =
    ⊎_elim
    (λ (low : i < 8). low)
    (λ (high : 8 ≤ i). (let none = bit_at_above b 8 i small high in absurd (omega (arith, is, none))))
    (cases_lt i 8)

pub lowest_from : (b k t : ℕ) → bit_at (b / 2 ^ k) t ≡ 1 → ((j : ℕ) → j < t → bit_at (b / 2 ^ k) j ≡ 0) → IsLowestFrom b k t
lowest_from b k t is none = record {
  set = sym (shifted_bit b k t) ∙ is;
  below = λ j le lt.
      let place : k + (j - k) ≡ j = omega (arith, le) in
      ap (bit_at b) (sym place) ∙ sym (shifted_bit b k (j - k)) ∙ none (j - k) (omega (arith, le, lt));
}

-- the least place from one on that is true, or that there is none
pub next_set_at : (bits : List Bool) (from k : ℕ) → from ≤ k → k < length bits → get_or bits k false ≡ true → ((j : ℕ) → from ≤ j → j < k → get_or bits j false ≡ false) → next_set_of from bits ≡ Some k
next_set_at bits from k le lt is none =
    found_first (λ b. b) from (k - from) (drop from bits) (omega (arith, le, lt, length-drop from bits))
    (get_or-drop from bits (k - from) false ∙ ap (λ n. get_or bits n false) (let e : from + (k - from) ≡ k = omega (arith, le) in e) ∙ is)
    (λ j l. get_or-drop from bits j false ∙ none (from + j) (omega arith) (omega (arith, l, le)))
    ∙ ap (λ n. Some n) (let e : from + (k - from) ≡ k = omega (arith, le) in e)

pub next_set_none : (bits : List Bool) (from : ℕ) → ((j : ℕ) → from ≤ j → j < length bits → get_or bits j false ≡ false) → next_set_of from bits ≡ None
next_set_none bits from none = found_none (λ b. b) from (drop from bits) (λ j l. get_or-drop from bits j false ∙ none (from + j) (omega arith) (omega (arith, l, length-drop from bits)))

-- what a byte has of places, where it has none from one on
pub none_in_byte : (bytes : List ℕ) (from place : ℕ) → place < 8 * length bytes → ((j : ℕ) → place % 8 ≤ j → j < 8 → bit_at (get_or bytes (place / 8) 0) j ≡ 0) →
    ((j : ℕ) → from ≤ j → j < place → get_or (bits_of bytes) j false ≡ false) → (j : ℕ) → from ≤ j → j < 8 * (place / 8 + 1) → get_or (bits_of bytes) j false ≡ false
none_in_byte bytes from place lt none before j le l =
    ⊎_elim
    (λ (early : j < place). before j le early)
    (λ (late : place ≤ j).
    let byte : j / 8 ≡ place / 8 = omega (arith, late, l) in
    get_or-bits bytes j false (omega (arith, late, l, lt))
    ∙ ap (λ n. bit_at (get_or bytes n 0) (j % 8) == 1) byte
    ∙ ap (λ n. n == 1) (none (j % 8) (omega (arith, late, byte)) (omega arith)))
    (cases_lt j place)

-- the lowest bit of a byte is the least place, where none before it is true
pub next_in_byte : (bytes : List ℕ) (from place found : ℕ) → from ≤ place → place < 8 * length bytes → place ≤ found → found / 8 ≡ place / 8 →
    bit_at (get_or bytes (place / 8) 0) (found % 8) ≡ 1 → ((j : ℕ) → place % 8 ≤ j → j < found % 8 → bit_at (get_or bytes (place / 8) 0) j ≡ 0) →
    ((j : ℕ) → from ≤ j → j < place → get_or (bits_of bytes) j false ≡ false) → next_set_of from (bits_of bytes) ≡ Some found
next_in_byte bytes from place found le lt later byte is none before =
    next_set_at (bits_of bytes) from found (omega (arith, le, later)) (omega (arith, lt, byte, length_bits bytes))
    (get_or-bits bytes found false (omega (arith, lt, byte)) ∙ ap (λ n. bit_at (get_or bytes n 0) (found % 8) == 1) byte ∙ ap (λ n. n == 1) is)
    (λ j m l.
    ⊎_elim
    (λ (early : j < place). before j m early)
    (λ (late : place ≤ j).
    let same : j / 8 ≡ place / 8 = omega (arith, late, l, byte) in
    get_or-bits bytes j false (omega (arith, late, l, lt, byte))
    ∙ ap (λ n. bit_at (get_or bytes n 0) (j % 8) == 1) same
    ∙ ap (λ n. n == 1) (none (j % 8) (omega (arith, late, same)) (omega (arith, l, same, byte))))
    (cases_lt j place))
