-- What two calls do to what is told of rises of the count of faults.
use Rattle.std.proofs.Common.{◌≡◌, ◌+◌, ◌≤◌, ◌<◌, ◌⊎◌, ◌||◌, min, nat_le, ℕ, Bool, true, false, List, [], ◌∷◌, None, Some, refl, sym, ap, ◌∙◌, inl, inr, arith}
use Rattle.std.specs.declared.option.Option.{Option}
use Rattle.std.proofs.lemmas.Bool.{cases_lt}
use Rattle.std.proofs.lemmas.Bool.Decides.{nat_tests}
use Rattle.vec_base.specs.declared.limits.TheConstants.{LAST_COUNT}
use Rattle.http_link.specs.Links.{on_last, has_risen, risen_by, RisenSince}

-- the last item is changed twice
last_twice : {A : Type 0} (f g h : A → A) → ((x : A) → h x ≡ g (f x)) → (xs : List A) → on_last h xs ≡ on_last g (on_last f xs)
unfolding on_last
last_twice f g h same [] = refl
last_twice f g h same (x ∷ []) = ap (λ z. z ∷ []) (same x)
last_twice f g h same (x ∷ y ∷ []) = ap (λ z. x ∷ z ∷ []) (same y)
last_twice f g h same (x ∷ y ∷ z ∷ xs) = ap (λ l. x ∷ l) (last_twice f g h same (y ∷ z ∷ xs))

either_rise : (a b c before : Bool) → c ≡ (a || b) → (before || c) ≡ ((before || a) || b)
either_rise a b c true is = refl
either_rise true b c false is = is
either_rise false b c false is = is

risen_reached : (before now : ℕ) → min (before + 1) LAST_COUNT ≤ now → has_risen before now ≡ true
risen_reached before now reached = grind (arith, nat_tests)

risen_missed : (before now : ℕ) → now < min (before + 1) LAST_COUNT → has_risen before now ≡ false
risen_missed before now missed = grind (arith, nat_tests)

-- a count has risen over two calls where it has in one of them
risen_twice : (f g h : ℕ) → f ≤ g → g ≤ h → has_risen f h ≡ (has_risen f g || has_risen g h)
risen_twice f g h first second =
    elim (cases_lt g (min (f + 1) LAST_COUNT)) [
      | inl missed ↦ elim (cases_lt h (min (g + 1) LAST_COUNT)) [
        | inl none ↦ rw (risen_missed f g missed, risen_missed g h none) (risen_missed f h (omega (arith, first, second, missed, none)))
        | inr later ↦ rw (risen_missed f g missed, risen_reached g h later) (risen_reached f h (omega (arith, first, second, missed, later)))
      ]
      | inr reached ↦ rw (risen_reached f g reached) (risen_reached f h (omega (arith, reached, second)))
    ]

-- what two calls do together
pub risen-append : (a b c : Option (List Bool)) (f g h : ℕ) → f ≤ g → g ≤ h → b ≡ risen_by (has_risen f g) a → c ≡ risen_by (has_risen g h) b
    → c ≡ risen_by (has_risen f h) a
risen-append None None None f g h first second one two = refl
risen-append None None (Some c) f g h first second one two = absurd (cc two)
risen-append None (Some b) c f g h first second one two = absurd (cc one)
risen-append (Some a) None c f g h first second one two = absurd (cc one)
risen-append (Some a) (Some b) c f g h first second one two =
    two ∙ ap (risen_by (has_risen g h)) one ∙ ap Some (last_changes (has_risen f g) (has_risen g h) (has_risen f h) (risen_twice f g h first second) a) where
      last_changes : (p q r : Bool) → r ≡ (p || q) → (xs : List Bool)
          → on_last (λ before. before || q) (on_last (λ before. before || p) xs) ≡ on_last (λ before. before || r) xs
      last_changes p q r is xs = sym (last_twice (λ before. before || p) (λ before. before || q) (λ before. before || r) (λ before. either_rise p q r before is) xs)

-- one call more, after none or some
pub risen_since : (a b c : Option (List Bool)) (f g h : ℕ) → RisenSince a f b g → f ≤ g → g ≤ h → c ≡ risen_by (has_risen g h) b
    → c ≡ risen_by (has_risen f h) a
risen_since a b c f g h (inl (same, count)) first second two =
    two ∙ ap (risen_by (has_risen g h)) same ∙ ap (λ n. risen_by (has_risen n h) a) count
risen_since a b c f g h (inr one) first second two = risen-append a b c f g h first second one two

-- no calls or some, after some
pub risen_then : (a b c : Option (List Bool)) (f g h : ℕ) → b ≡ risen_by (has_risen f g) a → f ≤ g → g ≤ h → RisenSince b g c h
    → c ≡ risen_by (has_risen f h) a
risen_then a b c f g h one first second (inl (same, count)) = same ∙ one ∙ ap (λ n. risen_by (has_risen f n) a) (sym count)
risen_then a b c f g h one first second (inr two) = risen-append a b c f g h first second one two
