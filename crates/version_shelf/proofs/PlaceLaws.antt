-- What is shown where versions come to empty places and go from places that are not named.
use Rattle.std.proofs.Common.{◌≡◌, ℕ, zero, suc, ◌<◌, List, [], ◌∷◌, length, get_or, set, Option, Some, None, IsSome, is_some, refl, sym, ap, ap₂, ◌∙◌, subst, arith, ⊎_elim}
use Rattle.std.proofs.lemmas.List.{map-set, get_or-set_same, get_or-set_other}
use Rattle.std.proofs.lemmas.Bool.{cases_eq, false≢true}
use Rattle.version_shelf.specs.OnShelf.{at_place, IsFilled, OnShelf, shown, Keeps, Names}

module _ {V : Type 0} where
  pub keeps-set : (old mid : List (Option V)) (p : ℕ) (w : Option V) → Keeps old mid → get_or mid p None ≡ None → Keeps old (set mid p w)
  keeps-set old mid p w kept empty q there =
      ⊎_elim
      (λ (e : q ≡ p). absurd (false≢true (ap is_some (sym empty ∙ ap (λ k. get_or mid k None) (sym e) ∙ kept q there) ∙ there)))
      (λ ne. get_or-set_other mid p q w None ne ∙ kept q there)
      (cases_eq q p)

  filled-kept : (old new : List (Option V)) (q : Option ℕ) → Keeps old new → IsFilled old q → IsFilled new q × (at_place new q ≡ at_place old q)
  filled-kept old new None kept on = (tt, refl)
  filled-kept old new (Some p) kept on = (let P : Option V → Type 0 = λ o. IsSome o in subst P (sym (kept p on)) on, kept p on)

  pub on-kept : (old new : List (Option V)) (qs : List (Option ℕ)) → Keeps old new → OnShelf old qs → OnShelf new qs
  on-kept old new [] kept on = tt
  on-kept old new (q ∷ qs) kept on = ((filled-kept old new q kept on.0).0, on-kept old new qs kept on.1)

  pub shown-kept : (old new : List (Option V)) (qs : List (Option ℕ)) → Keeps old new → OnShelf old qs → shown new qs ≡ shown old qs
  shown-kept old new [] kept on = refl
  shown-kept old new (q ∷ qs) kept on = ap₂ ◌∷◌ (filled-kept old new q kept on.0).1 (shown-kept old new qs kept on.1)

  pub on-set : (shelf : List (Option V)) (qs : List (Option ℕ)) (n : ℕ) (q : Option ℕ) → OnShelf shelf qs → IsFilled shelf q → OnShelf shelf (set qs n q)
  on-set shelf [] n q on one = tt
  on-set shelf (r ∷ rs) zero q on one = (one, on.1)
  on-set shelf (r ∷ rs) (suc n) q on one = (on.0, on-set shelf rs n q on.1 one)

  -- a version that is put at an empty place, and named under a number
  pub put-on : (old mid : List (Option V)) (p n : ℕ) (v : V) (qs : List (Option ℕ)) → Keeps old mid → get_or mid p None ≡ None → p < length mid → OnShelf old qs → OnShelf (set mid p (Some v)) (set qs n (Some p))
  put-on old mid p n v qs kept empty lt on =
      let P : Option V → Type 0 = λ o. IsSome o in
      on-set (set mid p (Some v)) qs n (Some p) (on-kept old (set mid p (Some v)) qs (keeps-set old mid p (Some v) kept empty) on) (subst P (sym (get_or-set_same mid p (Some v) None lt)) refl)

  pub put-shown : (old mid : List (Option V)) (p n : ℕ) (v : V) (qs : List (Option ℕ)) → Keeps old mid → get_or mid p None ≡ None → p < length mid → OnShelf old qs → shown (set mid p (Some v)) (set qs n (Some p)) ≡ set (shown old qs) n (Some v)
  put-shown old mid p n v qs kept empty lt on =
      map-set (at_place (set mid p (Some v))) qs n (Some p)
      ∙ ap (λ o. set (shown (set mid p (Some v)) qs) n o) (get_or-set_same mid p (Some v) None lt)
      ∙ ap (λ l. set l n (Some v)) (shown-kept old (set mid p (Some v)) qs (keeps-set old mid p (Some v) kept empty) on)

  -- a place that is not named
  free-filled : (s : List (Option V)) (q : Option ℕ) (p : ℕ) → (q ≡ Some p → ⊥) → IsFilled s q → IsFilled (set s p None) q × (at_place (set s p None) q ≡ at_place s q)
  free-filled s None p ne on = (tt, refl)
  free-filled s (Some r) p ne on =
      let other = get_or-set_other s p r None None (λ (e : r ≡ p). ne (ap Some e)) in
      (let P : Option V → Type 0 = λ o. IsSome o in subst P (sym other) on, other)

  pub free-one : (s : List (Option V)) (qs : List (Option ℕ)) (p : ℕ) → (Names p qs → ⊥) → OnShelf s qs → OnShelf (set s p None) qs × (shown (set s p None) qs ≡ shown s qs)
  free-one s [] p none on = (tt, refl)
  free-one s (q ∷ qs) p none on =
      let one = free-filled s q p (λ e. none (zero, omega arith, e)) on.0 in
      let rest = free-one s qs p (λ w. none (suc w.0, omega (arith, w.1), w.2)) on.1 in
      ((one.0, rest.0), ap₂ ◌∷◌ one.1 rest.1)
