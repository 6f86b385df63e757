-- What a filter keeps, slot by slot, and of values that are shown as others.
use Rattle.std.proofs.Common.{◌≡◌, ◌<◌, ◌&&◌, ℕ, zero, suc, Bool, false, List, [], ◌∷◌, map, length, get_or, refl, sym, ap, arith}
use Rattle.metadata_chunks.specs.Columns.{kept}

pub kept_shown : {A B : Type 0} (show : A → B) (test : B → Bool) (xs : List A) (bits : List Bool) → kept (λ x. test (show x)) xs bits ≡ kept test (map show xs) bits
kept_shown show test [] bits = refl
kept_shown show test (x ∷ xs) [] = refl
kept_shown show test (x ∷ xs) (bit ∷ bits) = ap (λ bs. (bit && test (show x)) ∷ bs) (kept_shown show test xs bits)

pub length_kept : {A : Type 0} (test : A → Bool) (xs : List A) (bits : List Bool) → length bits ≡ length xs → length (kept test xs bits) ≡ length bits
length_kept test [] bits same = sym same
length_kept test (x ∷ xs) [] same = refl
length_kept test (x ∷ xs) (bit ∷ bits) same = ap suc (length_kept test xs bits (omega (arith, same)))

-- a bit that was clear stays clear
pub stays_clear : {A : Type 0} (test : A → Bool) (xs : List A) (bits : List Bool) (i : ℕ) → get_or bits i false ≡ false → get_or (kept test xs bits) i false ≡ false
stays_clear test [] bits i clear = refl
stays_clear test (x ∷ xs) [] i clear = refl
stays_clear test (x ∷ xs) (bit ∷ bits) zero clear = ap (λ b. b && test x) clear
stays_clear test (x ∷ xs) (bit ∷ bits) (suc i) clear = stays_clear test xs bits i clear

pub kept_at : {A : Type 0} (test : A → Bool) (xs : List A) (d : A) (bits : List Bool) (i : ℕ) → i < length xs → get_or (kept test xs bits) i false ≡ (get_or bits i false && test (get_or xs i d))
kept_at test [] d bits i lt = absurd (omega (arith, lt))
kept_at test (x ∷ xs) d [] i lt = refl
kept_at test (x ∷ xs) d (bit ∷ bits) zero lt = refl
kept_at test (x ∷ xs) d (bit ∷ bits) (suc i) lt = kept_at test xs d bits i (omega (arith, lt))
