-- Cells that are laid out behind each other, and bits of bytes, read back.
use Rattle.std.proofs.Common.{◌≡◌, ℕ, zero, suc, ◌+◌, ◌*◌, ◌/◌, ◌%◌, ◌^◌, ◌<◌, ◌≤◌, ◌==◌, List, [], ◌∷◌, ◌++◌, length, take, drop, cond, Bool, true, false, ⊎_elim, refl, sym, ap, ◌∙◌, arith, length-append, length-drop}
use Rattle.std.specs.declared.option.Option.TheVariants.{Some, None}
use Rattle.std.specs.List.{slice_get}
use Rattle.std.specs.Option.{option_map}
use Rattle.std.proofs.lemmas.List.{take-append-le, take_all}
use Rattle.std.proofs.lemmas.Bool.{cases_eq, le-leb}
use Rattle.shadow_records.specs.Cells.{laid, of_bits, bitmap}
use Rattle.record_bodies.specs.Bodies.{cell_in, bit_in}

pub length-laid : (cell : ℕ → List ℕ) (width count : ℕ) → ((k : ℕ) → length (cell k) ≡ width) → length (laid cell count) ≡ count * width
length-laid cell width zero wide = omega arith
length-laid cell width (suc count) wide = length-append (laid cell count) (cell count) ∙ omega (arith, length-laid cell width count wide, wide count)

drop_left : (k : ℕ) (a b : List ℕ) → k ≤ length a → drop k (a ++ b) ≡ drop k a ++ b
drop_left zero a b h = refl
drop_left (suc k) [] b h = absurd (omega arith)
drop_left (suc k) (x ∷ a) b h = drop_left k a b (omega arith)

pub drop_seam : (a b : List ℕ) (k : ℕ) → length a ≡ k → drop k (a ++ b) ≡ b
drop_seam [] b zero e = refl
drop_seam [] b (suc k) e = absurd (omega arith)
drop_seam (x ∷ a) b zero e = absurd (omega arith)
drop_seam (x ∷ a) b (suc k) e = drop_seam a b k (omega arith)

pub room : (slot count width : ℕ) → slot < count → slot * width + width ≤ count * width
room slot count width lt = grind arith

laid_there : (cell : ℕ → List ℕ) (width count slot : ℕ) → ((k : ℕ) → length (cell k) ≡ width) → slot < count → take width (drop (slot * width) (laid cell count)) ≡ cell slot
laid_there cell width zero slot wide lt = absurd (omega arith)
laid_there cell width (suc count) slot wide lt =
    ⊎_elim
    (λ (same : slot ≡ count).
    ap (take width) (drop_seam (laid cell count) (cell count) (slot * width) (length-laid cell width count wide ∙ ap (λ k. k * width) (sym same)))
    ∙ ap (λ k. take k (cell count)) (sym (wide count)) ∙ take_all (length (cell count)) (cell count) (omega arith) ∙ ap cell (sym same))
    (λ (other : slot ≡ count → ⊥).
    let below : slot < count = omega arith in
    let fits : slot * width + width ≤ length (laid cell count) = rw (length-laid cell width count wide) (room slot count width below) in
    let inner : width ≤ length (drop (slot * width) (laid cell count)) = rw length-drop (omega arith) in
    ap (take width) (drop_left (slot * width) (laid cell count) (cell count) (omega arith))
    ∙ take-append-le width (drop (slot * width) (laid cell count)) (cell count) inner
    ∙ laid_there cell width count slot wide below)
    (cases_eq slot count)

-- a cell is where it was laid
pub cell_there : (cell : ℕ → List ℕ) (width count slot : ℕ) → ((k : ℕ) → length (cell k) ≡ width) → slot < count → cell_in width slot (laid cell count) ≡ Some (cell slot)
cell_there cell width count slot wide lt =
    let fits : slot * width + width ≤ length (laid cell count) = rw (length-laid cell width count wide) (room slot count width lt) in
    ap (λ b. cond b (Some (take width (drop (slot * width) (laid cell count)))) None) (le-leb (slot * width + width) (length (laid cell count)) fits)
    ∙ ap Some (laid_there cell width count slot wide lt)

-- ---- bits

scaled : (b : Bool) (k : ℕ) → cond b k 0 ≡ k * cond b 1 0
scaled true k = omega arith
scaled false k = omega arith

one_at_most : (b : Bool) → cond b 1 0 ≤ 1
one_at_most true = omega arith
one_at_most false = omega arith

sum_of_bits : (t : ℕ → Bool) → of_bits t 8 ≡ cond (t 0) 1 0 + 2 * cond (t 1) 1 0 + 4 * cond (t 2) 1 0 + 8 * cond (t 3) 1 0 + 16 * cond (t 4) 1 0 + 32 * cond (t 5) 1 0 + 64 * cond (t 6) 1 0 + 128 * cond (t 7) 1 0
sum_of_bits t = omega (arith, scaled (t 1) 2, scaled (t 2) 4, scaled (t 3) 8, scaled (t 4) 16, scaled (t 5) 32, scaled (t 6) 64, scaled (t 7) 128)

-- the bits of a number, the lowest first
abbrev EightBits : ℕ → ℕ → ℕ → ℕ → ℕ → ℕ → ℕ → ℕ → ℕ → Type 0
EightBits n a b c d e f g h = (n / 1 % 2 ≡ a) × ((n / 2 % 2 ≡ b) × ((n / 4 % 2 ≡ c) × ((n / 8 % 2 ≡ d) × ((n / 16 % 2 ≡ e) × ((n / 32 % 2 ≡ f) × ((n / 64 % 2 ≡ g) × (n / 128 % 2 ≡ h)))))))

eight_bits : (n a b c d e f g h : ℕ) → n ≡ a + 2 * b + 4 * c + 8 * d + 16 * e + 32 * f + 64 * g + 128 * h → a ≤ 1 → b ≤ 1 → c ≤ 1 → d ≤ 1 → e ≤ 1 → f ≤ 1 → g ≤ 1 → h ≤ 1 → EightBits n a b c d e f g h
eight_bits n a b c d e f g h is la lb lc ld le lf lg lh = (omega arith, (omega arith, (omega arith, (omega arith, (omega arith, (omega arith, (omega arith, omega arith)))))))

bits_of : (t : ℕ → Bool) → EightBits (of_bits t 8) (cond (t 0) 1 0) (cond (t 1) 1 0) (cond (t 2) 1 0) (cond (t 3) 1 0) (cond (t 4) 1 0) (cond (t 5) 1 0) (cond (t 6) 1 0) (cond (t 7) 1 0)
bits_of t = eight_bits (of_bits t 8) _ _ _ _ _ _ _ _ (sum_of_bits t) (one_at_most (t 0)) (one_at_most (t 1)) (one_at_most (t 2)) (one_at_most (t 3)) (one_at_most (t 4)) (one_at_most (t 5)) (one_at_most (t 6)) (one_at_most (t 7))

bit_of : (t : ℕ → Bool) (i : ℕ) → i < 8 → of_bits t 8 / 2 ^ i % 2 ≡ cond (t i) 1 0
bit_of t zero lt = (bits_of t).0
bit_of t (suc zero) lt = (bits_of t).1.0
bit_of t (suc (suc zero)) lt = (bits_of t).1.1.0
bit_of t (suc (suc (suc zero))) lt = (bits_of t).1.1.1.0
bit_of t (suc (suc (suc (suc zero)))) lt = (bits_of t).1.1.1.1.0
bit_of t (suc (suc (suc (suc (suc zero))))) lt = (bits_of t).1.1.1.1.1.0
bit_of t (suc (suc (suc (suc (suc (suc zero)))))) lt = (bits_of t).1.1.1.1.1.1.0
bit_of t (suc (suc (suc (suc (suc (suc (suc zero))))))) lt = (bits_of t).1.1.1.1.1.1.1
bit_of t (suc (suc (suc (suc (suc (suc (suc (suc k)))))))) lt = absurd (omega arith)

get_last : (xs : List ℕ) (y k : ℕ) → length xs ≡ k → slice_get (xs ++ y ∷ []) k ≡ Some y
get_last [] y zero e = refl
get_last [] y (suc k) e = absurd (omega arith)
get_last (x ∷ xs) y zero e = absurd (omega arith)
get_last (x ∷ xs) y (suc k) e = get_last xs y k (omega arith)

get_left : (xs ys : List ℕ) (k : ℕ) → k < length xs → slice_get (xs ++ ys) k ≡ slice_get xs k
get_left [] ys k lt = absurd (omega arith)
get_left (x ∷ xs) ys zero lt = refl
get_left (x ∷ xs) ys (suc k) lt = get_left xs ys k (omega arith)

byte_there : (byte : ℕ → ℕ) (count i : ℕ) → i < count → slice_get (laid (λ k. byte k ∷ []) count) i ≡ Some (byte i)
byte_there byte zero i lt = absurd (omega arith)
byte_there byte (suc count) i lt =
    let long = length-laid (λ k. byte k ∷ []) 1 count (λ k. refl) in
    ⊎_elim
    (λ (same : i ≡ count). get_last (laid (λ k. byte k ∷ []) count) (byte count) i (omega (arith, same, long)) ∙ ap (λ k. Some (byte k)) (sym same))
    (λ (other : i ≡ count → ⊥). get_left (laid (λ k. byte k ∷ []) count) (byte count ∷ []) i (omega arith) ∙ byte_there byte count i (omega arith))
    (cases_eq i count)

is_one_bit : (b : Bool) → (cond b 1 0 == 1) ≡ b
is_one_bit true = refl
is_one_bit false = refl

-- a bit is where it was put
pub bit_there : (test : ℕ → Bool) (size slot : ℕ) → size % 8 ≡ 0 → slot < size → bit_in slot (bitmap test size) ≡ Some (test slot)
bit_there test size slot eights lt =
    let byte = byte_there (λ k. of_bits (λ i. test (8 * k + i)) 8) (size / 8) (slot / 8) (omega arith) in
    let bit = bit_of (λ i. test (8 * (slot / 8) + i)) (slot % 8) (omega arith) in
    let back : 8 * (slot / 8) + slot % 8 ≡ slot = omega arith in
    ap (option_map (λ n. n / 2 ^ (slot % 8) % 2 == 1)) byte ∙ ap (λ n. Some (n == 1)) bit ∙ ap Some (is_one_bit (test (8 * (slot / 8) + slot % 8))) ∙ ap (λ k. Some (test k)) back
