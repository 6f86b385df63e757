-- One value put into a list of values that are shown as others.
use Rattle.std.proofs.Common.{◌≡◌, ℕ, ℤ, pos, negsuc, true, not, ◌||◌, nat_eq, List, map, set, replicate, zero, suc, ◌∷◌, Ok, Err, refl, sym, ap, ap₂, ◌∙◌, of_z, w64, true≢false, arith}
use Rattle.std.specs.Bool.{if◌then◌else◌}
use Rattle.std.specs.Result.{is_ok}
use Rattle.std.specs.declared.result.Result.{Result}
use Rattle.std.proofs.lemmas.Bool.{ne_eqb}
use Rattle.std.proofs.lemmas.List.{map-set}
use Rattle.vec_base.specs.declared.value.Value.{Value}
use Rattle.vec_base.specs.declared.value.Value.TheVariants.{Int}
use Rattle.row_model.specs.Values.{is_bool}
use Rattle.metadata_chunks.specs.Columns.{number_of}

pub put_shown : {A B T E : Type 0} (show : A → B) (r : Result T E) (before after : List A) (i : ℕ) (x : A) (v : B) → after ≡ (if is_ok r then set before i x else before) → show x ≡ v →
    map show after ≡ (if is_ok r then set (map show before) i v else map show before)
put_shown show (Ok t) before after i x v is same = ap (map show) is ∙ map-set show before i x ∙ ap (set (map show before) i) same
put_shown show (Err e) before after i x v is same = ap (map show) is

pub shown_copies : {A B : Type 0} (show : A → B) (count : ℕ) (x : A) → map show (replicate count x) ≡ replicate count (show x)
shown_copies show zero x = refl
shown_copies show (suc count) x = ap (λ ys. show x ∷ ys) (shown_copies show count x)

-- the numbers 0 and 1 are truth values
truth_counted : (n : ℕ) → (nat_eq n 0 || nat_eq n 1) ≡ true → number_of (not (nat_eq (of_z w64 (pos n)) 0)) ≡ Int (pos n)
truth_counted zero is = refl
truth_counted (suc zero) is = refl
truth_counted (suc (suc n)) is = absurd (true≢false (sym is ∙ ap₂ (λ a b. a || b) (ne_eqb (suc (suc n)) 0 (λ e. omega (arith, e))) (ne_eqb (suc (suc n)) 1 (λ e. omega (arith, e)))))

pub truth_shown : (number : ℤ) (v : Value) → v ≡ Int number → is_bool v ≡ true → number_of (not (nat_eq (of_z w64 number) 0)) ≡ v
truth_shown (pos n) v is bool = truth_counted n (sym (ap is_bool is) ∙ bool) ∙ sym is
truth_shown (negsuc n) v is bool = absurd (true≢false (sym bool ∙ ap is_bool is))
