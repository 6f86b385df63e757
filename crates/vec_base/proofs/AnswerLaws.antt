-- What is answered exactly: where there is one value, one error and never both, it is enough that each answer is right.
use Rattle.std.proofs.Common.{◌≡◌, inl, inr, refl, ap, Result, Ok, Err}
use Rattle.std.specs.Prelude.{◌⊎◌, IfOk, IfErr}
use Rattle.vec_base.specs.Answers.{IsExactAnswer}

module _ {A E : Type 0} (starved : E) (V : A → Type 0) (F : E → Type 0)
    (one_value : (a b : A) → V a → V b → a ≡ b) (one_error : (e f : E) → F e → F f → e ≡ f) (apart : (a : A) (e : E) → V a → F e → ⊥) where
  pub exact_by : (r : Result A E) → IfOk r V → IfErr r (λ e. (e ≡ starved) ⊎ F e) → IsExactAnswer starved V F r
  exact_by (Ok a) ok err = record {
    value = ok;
    error = tt;
    only_value = λ b h. inl (ap (λ (z : A). (let r : Result A E = Ok z in r)) (one_value a b ok h));
    only_error = λ e h. absurd (apart a e ok h);
  }
  exact_by (Err e) ok (inl m) = record {
    value = tt;
    error = inl m;
    only_value = λ b h. inr (ap (λ (z : E). (let r : Result A E = Err z in r)) m);
    only_error = λ f h. inr (ap (λ (z : E). (let r : Result A E = Err z in r)) m);
  }
  exact_by (Err e) ok (inr f) = record {
    value = tt;
    error = inr f;
    only_value = λ b h. absurd (apart b e h f);
    only_error = λ g h. inl (ap (λ (z : E). (let r : Result A E = Err z in r)) (one_error e g f h));
  }
