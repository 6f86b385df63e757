-- Filters from set bit to set bit.
use Rattle.std.proofs.Common.{◌≡◌, ◌<◌, ◌≤◌, ◌+◌, ◌-◌, ◌&&◌, ℕ, zero, suc, Bool, true, false, List, [], ◌∷◌, length, drop, get_or, set, Some, None, refl, sym, ap, ap₂, ◌∙◌, arith}
use Rattle.std.specs.List.{position_from}
use Rattle.std.proofs.lemmas.List.{length-drop, get_or-drop}
use Rattle.chunk_bitmap.specs.BitsOfBytes.{next_set_of}
use Rattle.metadata_chunks.specs.Columns.{kept}
use Rattle.metadata_chunks.specs.inner.Filtering.{kept_until, GoesOn}

-- a place that is found from one on: it is set, and those before it are clear
pub record IsNext (from : ℕ) (bits : List Bool) (slot : ℕ) : Type 0 where
  pub behind : from ≤ slot
  pub within : slot < from + length bits
  pub there : get_or bits (slot - from) false ≡ true
  pub clear : (j : ℕ) → from + j < slot → get_or bits j false ≡ false

pub found : (from : ℕ) (bits : List Bool) (slot : ℕ) → position_from (λ bit. bit) from bits ≡ Some slot → IsNext from bits slot
found from [] slot is = absurd cc
found from (true ∷ bits) slot is =
    let e : from ≡ slot = cc in
    let z : slot - from ≡ 0 = omega (arith, e) in
    record { behind = omega (arith, e); within = omega (arith, e); there = ap (λ n. get_or (true ∷ bits) n false) z; clear = λ j lt. absurd (omega (arith, lt, e)) }
found from (false ∷ bits) slot is =
    let rest = found (from + 1) bits slot is in
    let e : slot - from ≡ suc (slot - (from + 1)) = omega (arith, rest.behind) in
    record {
      behind = omega (arith, rest.behind);
      within = omega (arith, rest.within);
      there = ap (λ n. get_or (false ∷ bits) n false) e ∙ rest.there;
      clear = clear_before from bits slot rest;
    }
  where
    clear_before : (from : ℕ) (bits : List Bool) (slot : ℕ) → IsNext (from + 1) bits slot → (j : ℕ) → from + j < slot → get_or (false ∷ bits) j false ≡ false
    clear_before from bits slot rest zero lt = refl
    clear_before from bits slot rest (suc j) lt = rest.clear j (omega (arith, lt))

pub none_left : (from : ℕ) (bits : List Bool) → position_from (λ bit. bit) from bits ≡ None → (j : ℕ) → get_or bits j false ≡ false
none_left from [] is j = refl
none_left from (true ∷ bits) is j = absurd cc
none_left from (false ∷ bits) is zero = refl
none_left from (false ∷ bits) is (suc j) = none_left (from + 1) bits is j

pub behind : (from slot : ℕ) (bits : List Bool) → next_set_of from bits ≡ Some slot → from ≤ slot
behind from slot bits is = (found from (drop from bits) slot is).behind

pub slot_within : {A : Type 0} (from slot : ℕ) (values : List A) (bits : List Bool) → from ≤ length values → length bits ≡ length values → next_set_of from bits ≡ Some slot → slot < length values
slot_within from slot values bits le same is = omega (arith, (found from (drop from bits) slot is).within, length-drop from bits, le, same)

set_again : (bits : List Bool) (i : ℕ) → get_or bits i false ≡ true → set bits i true ≡ bits
set_again [] i there = refl
set_again (bit ∷ bits) zero there = ap (λ b. b ∷ bits) (sym there)
set_again (bit ∷ bits) (suc i) there = ap (λ bs. bit ∷ bs) (set_again bits i there)

module _ {A : Type 0} (test : A → Bool) where
  pub length_until : (n : ℕ) (values : List A) (bits : List Bool) → length (kept_until n test values bits) ≡ length bits
  length_until zero values bits = refl
  length_until (suc n) [] bits = refl
  length_until (suc n) (value ∷ values) [] = refl
  length_until (suc n) (value ∷ values) (bit ∷ bits) = ap suc (length_until n values bits)

  -- the bits from a place on are as before
  rest_until : (n : ℕ) (values : List A) (bits : List Bool) → length bits ≡ length values → drop n (kept_until n test values bits) ≡ drop n bits
  rest_until zero values bits same = refl
  rest_until (suc n) [] [] same = refl
  rest_until (suc n) [] (bit ∷ bits) same = absurd (omega (arith, same))
  rest_until (suc n) (value ∷ values) [] same = refl
  rest_until (suc n) (value ∷ values) (bit ∷ bits) same = rest_until n values bits (omega (arith, same))

  -- slots whose bits are clear need no look
  skipped : (n m : ℕ) (values : List A) (bits : List Bool) → length bits ≡ length values → n ≤ m → ((j : ℕ) → n + j < m → get_or (drop n bits) j false ≡ false) →
      kept_until m test values bits ≡ kept_until n test values bits
  skipped zero zero values bits same le clear = refl
  skipped zero (suc m) [] bits same le clear = refl
  skipped zero (suc m) (value ∷ values) [] same le clear = refl
  skipped zero (suc m) (value ∷ values) (bit ∷ bits) same le clear =
      let first : bit ≡ false = clear 0 (omega arith) in
      ap₂ (λ b bs. b ∷ bs) (ap (λ b. b && test value) first ∙ sym first) (skipped zero m values bits (omega (arith, same)) (omega arith) (λ j lt. clear (suc j) (omega (arith, lt))))
  skipped (suc n) zero values bits same le clear = absurd (omega (arith, le))
  skipped (suc n) (suc m) [] bits same le clear = refl
  skipped (suc n) (suc m) (value ∷ values) [] same le clear = refl
  skipped (suc n) (suc m) (value ∷ values) (bit ∷ bits) same le clear =
      ap (λ bs. (bit && test value) ∷ bs) (skipped n m values bits (omega (arith, same)) (omega (arith, le)) (λ j lt. clear j (omega (arith, lt))))

  -- one slot more whose bit is set
  looked_at : (n : ℕ) (value : A) (values : List A) (bits : List Bool) → length bits ≡ length values → n < length values → value ≡ get_or values n value → get_or bits n false ≡ true →
      kept_until (suc n) test values bits ≡ set (kept_until n test values bits) n (test value)
  looked_at n value [] bits same lt is there = absurd (omega (arith, lt))
  looked_at n value (x ∷ xs) [] same lt is there = absurd (omega (arith, same))
  looked_at zero value (x ∷ xs) (bit ∷ bits) same lt is there = ap₂ (λ b y. (b && test y) ∷ bits) there (sym is)
  looked_at (suc n) value (x ∷ xs) (bit ∷ bits) same lt is there = ap (λ bs. (bit && test x) ∷ bs) (looked_at n value xs bits (omega (arith, same)) (omega (arith, lt)) is there)

  -- all slots
  all_until : (n : ℕ) (values : List A) (bits : List Bool) → length bits ≡ length values → n ≡ length bits → kept_until n test values bits ≡ kept test values bits
  all_until zero [] [] same n = refl
  all_until zero [] (bit ∷ bits) same n = absurd (omega (arith, n))
  all_until zero (value ∷ values) [] same n = refl
  all_until zero (value ∷ values) (bit ∷ bits) same n = absurd (omega (arith, n))
  all_until (suc k) [] [] same n = refl
  all_until (suc k) [] (bit ∷ bits) same n = absurd (omega (arith, same))
  all_until (suc k) (value ∷ values) [] same n = refl
  all_until (suc k) (value ∷ values) (bit ∷ bits) same n = ap (λ bs. (bit && test value) ∷ bs) (all_until k values bits (omega (arith, same)) (omega (arith, n)))

  -- what is known where no bit is set from a place on
  pub until_end : (n : ℕ) (values : List A) (bits keep : List Bool) → length bits ≡ length values → n ≤ length values → keep ≡ kept_until n test values bits → next_set_of n keep ≡ None → keep ≡ kept test values bits
  until_end n values bits keep same le is none =
      let clear = none_left n (drop n bits) (ap (position_from (λ bit. bit) n) (sym (rest_until n values bits same) ∙ ap (drop n) (sym is)) ∙ none) in
      is ∙ sym (skipped n (length bits) values bits same (omega (arith, le, same)) (λ j lt. clear j)) ∙ all_until (length bits) values bits same refl

  -- up to the next set bit
  pub until_next : (n slot : ℕ) (values : List A) (bits keep : List Bool) → length bits ≡ length values → keep ≡ kept_until n test values bits → next_set_of n keep ≡ Some slot → keep ≡ kept_until slot test values bits
  until_next n slot values bits keep same is next =
      let at = found n (drop n bits) slot (ap (position_from (λ bit. bit) n) (sym (rest_until n values bits same) ∙ ap (drop n) (sym is)) ∙ next) in
      is ∙ sym (skipped n slot values bits same at.behind at.clear)

  -- the bit of a slot is as at first
  bit_until : (n : ℕ) (values : List A) (bits keep : List Bool) → length bits ≡ length values → keep ≡ kept_until n test values bits → get_or bits n false ≡ get_or keep n false
  bit_until n values bits keep same is =
      let here : n + 0 ≡ n = omega arith in
      ap (λ k. get_or bits k false) (sym here)
      ∙ sym (get_or-drop n bits 0 false)
      ∙ ap (λ bs. get_or bs 0 false) (sym (rest_until n values bits same) ∙ ap (drop n) (sym is))
      ∙ get_or-drop n keep 0 false
      ∙ ap (λ k. get_or keep k false) here

  -- one slot more
  pub one_clear : (n : ℕ) (values : List A) (keep : List Bool) → get_or keep n false ≡ false → GoesOn test values n keep (n + 1) keep
  one_clear n values keep clear bits same is =
      let first : get_or (drop n bits) 0 false ≡ false =
      get_or-drop n bits 0 false ∙ ap (λ k. get_or bits k false) (let e : n + 0 ≡ n = omega arith in e) ∙ bit_until n values bits keep same is ∙ clear in
      is ∙ sym (skipped n (n + 1) values bits same (omega arith) (λ j lt. ap (λ k. get_or (drop n bits) k false) (let e : j ≡ 0 = omega (arith, lt) in e) ∙ first))

  one_set : (n : ℕ) (value : A) (values : List A) (bits keep : List Bool) → length bits ≡ length values → keep ≡ kept_until n test values bits → n < length values → value ≡ get_or values n value → get_or keep n false ≡ true →
      set keep n (test value) ≡ kept_until (n + 1) test values bits
  one_set n value values bits keep same is lt at there =
      let more : n + 1 ≡ suc n = omega arith in
      sym (ap (λ k. kept_until k test values bits) more ∙ looked_at n value values bits same lt at (bit_until n values bits keep same is ∙ there) ∙ ap (λ bs. set bs n (test value)) (sym is))

  pub one_stays : (n : ℕ) (value : A) (values : List A) (keep : List Bool) → n < length values → value ≡ get_or values n value → get_or keep n false ≡ true → test value ≡ true → GoesOn test values n keep (n + 1) keep
  one_stays n value values keep lt at there passes bits same is =
      sym (set_again keep n there) ∙ ap (set keep n) (sym passes) ∙ one_set n value values bits keep same is lt at there

  pub one_goes : (n : ℕ) (value : A) (values : List A) (keep after : List Bool) → n < length values → value ≡ get_or values n value → get_or keep n false ≡ true → test value ≡ false → after ≡ set keep n false → GoesOn test values n keep (n + 1) after
  one_goes n value values keep after lt at there fails now bits same is =
      now ∙ ap (set keep n) (sym fails) ∙ one_set n value values bits keep same is lt at there
