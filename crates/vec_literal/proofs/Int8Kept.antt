-- The number that digits show, and what a reader keeps of the elements so far: their bytes, or the index of the first misfit.
use Rattle.std.proofs.Common.{◌≡◌, ℕ, ◌+◌, ◌-◌, ◌*◌, ◌%◌, ◌<◌, ◌≤◌, length, take, get_or, nat_lt, nat_le, eqb, Bool, true, false, cond, inl, inr, List, [], ◌∷◌, ◌++◌, map, All, Option, Some, None, refl, sym, ◌∙◌, ap, subst, arith}
use Rattle.std.specs.Prelude.{ℤ, pos, ◌-ℤ◌, ◌⊎◌}
use Rattle.std.specs.Char.{is_ascii_digit, digit_value}
use Rattle.std.specs.Int.{w8, cast_unsigned}
use Rattle.std.specs.Str.Parse.{digits_value}
use Rattle.std.proofs.Math.Seq.{get_or-append_seam, take-append_seam}
use Rattle.std.proofs.lemmas.Bool.{and_parts, and_from, eqb-true, not_from_false, leb-true, leb-false, lt-ltb, le-ltb, cond-true, cond-false, cases_lt, cases_Bool}
use Rattle.std.proofs.lemmas.Bool.Decides.{nat_tests}
use Rattle.std.proofs.lemmas.Int.{ints}
use Rattle.std.proofs.lemmas.Int.Digits.{digits_value_push}
use Rattle.std.proofs.lemmas.List.{map-append, length-append, length-map, get_or_append_left, get_or-take, take-append-le, length-take-le}
use Rattle.std.proofs.lemmas.List.Elements.{All-push, All-get_or}
use Rattle.std.proofs.lemmas.List.Folds.{list_all-append}
use Rattle.std.proofs.lemmas.Str.{digit_value_digit}
use Rattle.vec_literal.specs.Int8.{is_digits, SpellsNumber, IsElement, IsFirstMisfit}
use Rattle.vec_literal.specs.declared.int8.Number.{Number}
use Rattle.vec_literal.specs.declared.int8.Stage.{Stage}
use Rattle.vec_literal.specs.inner.Int8Reading.{byte_of, more_digits, with_byte, with_element}

-- a digit: its range and its value

pub digit_range : (b : ℕ) → is_ascii_digit b ≡ true → (48 ≤ b) × (b ≤ 57)
digit_range b h = grind (arith, nat_tests)

pub digit_value_is : (b : ℕ) → is_ascii_digit b ≡ true → digit_value b ≡ b - 48
digit_value_is b h = let e = digit_value_digit b (digit_range b h) in omega (arith, e)

-- the magnitude of a reader shows the value of digits: it is the value, or both are too large for any element
abbrev pub Shows : ℕ → ℕ → Type 0
Shows m v = (m ≡ v) ⊎ ((1000 ≤ m) × (1000 ≤ v))

pub first_shows : (b : ℕ) → is_ascii_digit b ≡ true → Shows (b - 48) (digits_value 10 (b ∷ []))
first_shows b h = inl (let e = digit_value_is b h in omega (arith, e))

-- one digit more

pub more_below : (m b : ℕ) → m < 1000 → more_digits m b ≡ m * 10 + (b - 48)
more_below m b h = cond-true (nat_lt m 1000) (m * 10 + (b - 48)) m (lt-ltb m 1000 h)

pub more_above : (m b : ℕ) → 1000 ≤ m → more_digits m b ≡ m
more_above m b h = cond-false (nat_lt m 1000) (m * 10 + (b - 48)) m (le-ltb m 1000 h)

pub more_shows : (m v b : ℕ) → is_ascii_digit b ≡ true → Shows m v → Shows (more_digits m b) (v * 10 + digit_value b)
more_shows m v b h (inl same) =
    elim (cases_lt m 1000) [
      | inl few ↦ inl (more_below m b few ∙ (let e = digit_value_is b h in omega (arith, e, same)))
      | inr many ↦ inr (let e = more_above m b many in omega (arith, e, many), omega (arith, same, many))
    ]
more_shows m v b h (inr large) = inr (let e = more_above m b large.0 in omega (arith, e, large.0), omega (arith, large.1))

-- the digits of a number that is not zero may go on
pub digits_more : (m : ℕ) (ds : List ℕ) (b : ℕ) → is_digits ds ≡ true → (m ≡ 0 → ⊥) → Shows m (digits_value 10 ds) → is_ascii_digit b ≡ true → is_digits (ds ++ b ∷ []) ≡ true
digits_more m [] b h some s k = absurd (let f : false ≡ true = h in cc)
digits_more m (d ∷ []) b h some s k =
    let other : eqb d 48 ≡ false = elim (cases_Bool (eqb d 48)) [
      | inl zero ↦
          let at : d ≡ 48 = eqb-true d 48 zero in
          let none : digits_value 10 (d ∷ []) ≡ 0 = subst (λ (c : ℕ). digits_value 10 (c ∷ []) ≡ 0) (sym at) refl in
          absurd (elim s [ inl same ↦ some (same ∙ none) | inr large ↦ let l = large.1 in omega (arith, l, none) ])
      | inr differs ↦ differs
    ] in
    and_from _ _ (and_from _ _ h (not_from_false (eqb d 48) other)) (and_from _ _ k refl)
digits_more m (d ∷ e ∷ ds) b h some s k =
    let p = and_parts _ _ h in
    and_from _ _ p.0 (list_all-append is_ascii_digit (e ∷ ds) (b ∷ []) ∙ and_from _ _ p.1 (and_from _ _ k refl))

pub push_shows : (m : ℕ) (ds : List ℕ) (b : ℕ) → is_ascii_digit b ≡ true → Shows m (digits_value 10 ds) → Shows (more_digits m b) (digits_value 10 (ds ++ b ∷ []))
push_shows m ds b h s = subst (λ (v : ℕ). Shows (more_digits m b) v) (sym (digits_value_push 10 ds b)) (more_shows m (digits_value 10 ds) b h s)

-- a sign and digits: the text and the number

abbrev pub sign : Bool → List ℕ
sign true = 45 ∷ []
sign false = []

abbrev pub signed_value : Bool → ℕ → ℤ
signed_value negative v = cond negative (pos 0 -ℤ pos v) (pos v)

pub signed_spelled : (negative : Bool) (ds : List ℕ) → is_digits ds ≡ true → SpellsNumber (sign negative ++ ds) (signed_value negative (digits_value 10 ds))
signed_spelled true ds h = (ds, h, inr (refl, refl))
signed_spelled false ds h = (ds, h, inl (refl, refl))

-- the byte of the number, or nothing where it is no element
abbrev pub FitsAs : Option ℕ → ℤ → Type 0
FitsAs (Some b) z = IsElement z × (b ≡ cast_unsigned w8 z)
FitsAs None z = IsElement z → ⊥

-- whether a shown number fits

minus_fits : (v : ℕ) → v ≤ 128 → FitsAs (Some ((256 - v) % 256)) (pos 0 -ℤ pos v)
minus_fits v h = ((omega (arith, ints), omega (arith, ints)), omega (arith, ints))

plain_fits : (v : ℕ) → v ≤ 127 → FitsAs (Some v) (pos v)
plain_fits v h = ((omega (arith, ints), omega (arith, ints)), omega (arith, ints))

minus_misfits : (v : ℕ) → 128 < v → IsElement (pos 0 -ℤ pos v) → ⊥
minus_misfits v h k = omega (arith, ints, k.0)

plain_misfits : (v : ℕ) → 127 < v → IsElement (pos v) → ⊥
plain_misfits v h k = omega (arith, ints, k.1)

small_shown : (m v n : ℕ) → n < 1000 → Shows m v → m ≤ n → m ≡ v
small_shown m v n few (inl same) h = same
small_shown m v n few (inr large) h = absurd (omega (arith, large.0))

large_shown : (m v n : ℕ) → n < 1000 → Shows m v → n < m → n < v
large_shown m v n few (inl same) h = omega (arith, same)
large_shown m v n few (inr large) h = omega (arith, large.1)

pub shown_fits : (negative : Bool) (m v : ℕ) → Shows m v → FitsAs (byte_of (record { negative = negative; magnitude = m })) (signed_value negative v)
shown_fits true m v s =
    elim (cases_Bool (nat_le m 128)) [
      | inl few ↦
          let same = small_shown m v 128 (omega arith) s (leb-true m 128 few) in
          let fits : FitsAs (Some ((256 - m) % 256)) (pos 0 -ℤ pos v) = subst (λ (k : ℕ). FitsAs (Some ((256 - m) % 256)) (pos 0 -ℤ pos k)) same (minus_fits m (leb-true m 128 few)) in
          subst (λ (o : Option ℕ). FitsAs o (pos 0 -ℤ pos v)) (sym (cond-true (nat_le m 128) (Some ((256 - m) % 256)) None few)) fits
      | inr many ↦
          subst (λ (o : Option ℕ). FitsAs o (pos 0 -ℤ pos v)) (sym (cond-false (nat_le m 128) (Some ((256 - m) % 256)) None many))
          (minus_misfits v (large_shown m v 128 (omega arith) s (leb-false m 128 many)))
    ]
shown_fits false m v s =
    elim (cases_Bool (nat_le m 127)) [
      | inl few ↦
          let same = small_shown m v 127 (omega arith) s (leb-true m 127 few) in
          let fits : FitsAs (Some m) (pos v) = subst (λ (k : ℕ). FitsAs (Some m) (pos k)) same (plain_fits m (leb-true m 127 few)) in
          subst (λ (o : Option ℕ). FitsAs o (pos v)) (sym (cond-true (nat_le m 127) (Some m) None few)) fits
      | inr many ↦
          subst (λ (o : Option ℕ). FitsAs o (pos v)) (sym (cond-false (nat_le m 127) (Some m) None many))
          (plain_misfits v (large_shown m v 127 (omega arith) s (leb-false m 127 many)))
    ]

-- what a reader keeps of the elements
abbrev pub Kept : Option ℕ → List ℕ → List ℤ → Type 0
Kept None vector zs = All IsElement zs × (vector ≡ map (cast_unsigned w8) zs)
Kept (Some i) vector zs = IsFirstMisfit zs i

-- one element more

misfit_stays : (zs : List ℤ) (i : ℕ) (z : ℤ) → IsFirstMisfit zs i → IsFirstMisfit (zs ++ z ∷ []) i
misfit_stays zs i z h = record {
  within = let e = length-append zs (z ∷ []) in omega (arith, e, h.within);
  misfit = λ k. h.misfit (subst IsElement (get_or_append_left zs (z ∷ []) (pos 0) i h.within) k);
  first = subst (λ (xs : List ℤ). All IsElement xs) (sym (take-append-le i zs (z ∷ []) (omega (arith, h.within)))) h.first;
}

misfit_last : (zs : List ℤ) (z : ℤ) (n : ℕ) → n ≡ length zs → All IsElement zs → (IsElement z → ⊥) → IsFirstMisfit (zs ++ z ∷ []) n
misfit_last zs z n e h k =
    subst (λ (i : ℕ). IsFirstMisfit (zs ++ z ∷ []) i) (sym e) (record {
      within = let l = length-append zs (z ∷ []) in omega (arith, l);
      misfit = λ s. k (subst IsElement (get_or-append_seam zs z [] (pos 0)) s);
      first = subst (λ (xs : List ℤ). All IsElement xs) (sym (take-append_seam zs (z ∷ []))) h;
    })

byte_kept : (s : Stage) (v : List ℕ) (o : Option ℕ) (zs : List ℤ) (z : ℤ) → FitsAs o z → Kept None v zs →
    Kept (with_byte (record { stage = s; vector = v; misfit = None }) o).misfit (with_byte (record { stage = s; vector = v; misfit = None }) o).vector (zs ++ z ∷ [])
byte_kept s v (Some b) zs z f k =
    (All-push IsElement zs z k.0 f.0, ap (λ (w : List ℕ). w ++ b ∷ []) k.1 ∙ ap (λ (y : ℕ). map (cast_unsigned w8) zs ++ y ∷ []) f.1 ∙ sym (map-append (cast_unsigned w8) zs (z ∷ [])))
byte_kept s v None zs z f k = misfit_last zs z (length v) (ap length k.1 ∙ length-map zs (cast_unsigned w8)) k.0 f

pub element_kept : (m : Option ℕ) (s : Stage) (v : List ℕ) (n : Number) (zs : List ℤ) (z : ℤ) → FitsAs (byte_of n) z → Kept m v zs →
    Kept (with_element (record { stage = s; vector = v; misfit = m }) n).misfit (with_element (record { stage = s; vector = v; misfit = m }) n).vector (zs ++ z ∷ [])
element_kept (Some i) s v n zs z f k = misfit_stays zs i z k
element_kept None s v n zs z f k = byte_kept s v (byte_of n) zs z f k

-- elements have one first misfit at most, and none where all fit

pub misfit_not_all : (zs : List ℤ) (i : ℕ) → IsFirstMisfit zs i → All IsElement zs → ⊥
misfit_not_all zs i h k = h.misfit (All-get_or IsElement zs i (pos 0) h.within k)

misfit_earlier : (zs : List ℤ) (i j : ℕ) → i < j → IsFirstMisfit zs i → IsFirstMisfit zs j → ⊥
misfit_earlier zs i j less h k =
    let count : length (take j zs) ≡ j = length-take-le j zs (omega (arith, k.within)) in
    let element : IsElement (get_or (take j zs) i (pos 0)) = All-get_or IsElement (take j zs) i (pos 0) (omega (arith, count, less)) k.first in
    h.misfit (subst IsElement (get_or-take j zs i (pos 0) less) element)

pub one_misfit : (zs : List ℤ) (i j : ℕ) → IsFirstMisfit zs i → IsFirstMisfit zs j → i ≡ j
one_misfit zs i j h k =
    elim (cases_lt i j) [
      | inl less ↦ absurd (misfit_earlier zs i j less h k)
      | inr other ↦
          elim (cases_lt j i) [
            | inl less ↦ absurd (misfit_earlier zs j i less k h)
            | inr same ↦ omega (arith, other, same)
          ]
    ]
