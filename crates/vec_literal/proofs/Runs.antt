-- Runs of bytes that pass a test, and the digits of blob literals.
use Rattle.std.proofs.Common.{◌≡◌, ℕ, zero, suc, ◌+◌, ◌-◌, ◌%◌, ◌<◌, ◌≤◌, Bool, true, false, ◌&&◌, List, [], ◌∷◌, length, take, drop, get_or, refl, sym, ◌∙◌, ap, subst, arith, length-drop, eq-eqb}
use Rattle.std.proofs.lemmas.List.{get_or-drop}
use Rattle.std.proofs.lemmas.List.Sums.{prefix_len-le-length, prefix_len_passes, prefix_len_stops}
use Rattle.std.proofs.lemmas.Bool.{and_parts, and_from, both_ways, cond-true, cond-false, eqb-true}
use Rattle.std.specs.List.{list_all, prefix_len}
use Rattle.std.specs.Char.{is_ascii_hexdigit}
use Rattle.vec_literal.specs.Tokens.{is_hex_to_quote}
use Rattle.vec_literal.specs.inner.Stretches.{EndsAt, EndsNowhere, run_end}

-- the first k elements pass if each of them does
run_passes : (f : ℕ → Bool) (bs : List ℕ) (k : ℕ) → k ≤ length bs → ((i : ℕ) → i < k → f (get_or bs i 0) ≡ true) → list_all f (take k bs) ≡ true
run_passes f bs zero l h = refl
run_passes f [] (suc k) l h = absurd (omega arith)
run_passes f (b ∷ bs) (suc k) l h = and_from _ _ (h 0 (omega arith)) (run_passes f bs k (omega arith) (λ i m. h (suc i) (omega arith)))

-- a longer front does not pass where an element of it fails
run_fails : (f : ℕ → Bool) (bs : List ℕ) (k m : ℕ) → k < m → m ≤ length bs → f (get_or bs k 0) ≡ false → list_all f (take m bs) ≡ true → ⊥
run_fails f [] k m l n h e = absurd (omega arith)
run_fails f (b ∷ bs) k zero l n h e = absurd (omega arith)
run_fails f (b ∷ bs) zero (suc m) l n h e = both_ways (f b) h (and_parts _ _ e).0
run_fails f (b ∷ bs) (suc k) (suc m) l n h e = run_fails f bs k m (omega arith) (omega arith) h (and_parts _ _ e).1

-- the longest run from a place ends where the first element fails
run_ends : (f : ℕ → Bool) (text : List ℕ) (from : ℕ) → from ≤ length text → EndsAt (list_all f) text from (length text) (run_end f text from)
run_ends f text from l =
    let rest : List ℕ = drop from text in
    let k : ℕ = prefix_len f rest in
    let size : length rest ≡ length text - from = length-drop from text in
    let room : k ≤ length rest = prefix_len-le-length f rest in
    let same : k ≡ from + k - from = omega arith in
    record {
      rising = omega arith;
      inside = omega (arith, size, room);
      passed = subst (λ (z : ℕ). list_all f (take z rest) ≡ true) same (run_passes f rest k room (λ i m. prefix_len_passes f rest i 0 m));
      longest = λ m over inside e.
          (let longer : k < m - from = omega arith in
          let within : m - from ≤ length rest = omega (arith, size) in
          run_fails f rest k (m - from) longer within (prefix_len_stops f rest 0 (omega arith)) e);
    }

-- the same, of a place that is said to be that end
pub run_to : (f : ℕ → Bool) (text : List ℕ) (from upto : ℕ) → from ≤ length text → upto ≡ run_end f text from → EndsAt (list_all f) text from (length text) upto
run_to f text from upto l e = subst (λ (z : ℕ). EndsAt (list_all f) text from (length text) z) (sym e) (run_ends f text from l)

-- how many elements pass, one after the other, by the first of them
prefix_more : (f : ℕ → Bool) (b : ℕ) (bs : List ℕ) → f b ≡ true → prefix_len f (b ∷ bs) ≡ suc (prefix_len f bs)
prefix_more f b bs h = cond-true (f b) (1 + prefix_len f bs) 0 h ∙ (let e : 1 + prefix_len f bs ≡ suc (prefix_len f bs) = omega arith in e)

prefix_stop : (f : ℕ → Bool) (b : ℕ) (bs : List ℕ) → f b ≡ false → prefix_len f (b ∷ bs) ≡ 0
prefix_stop f b bs h = cond-false (f b) (1 + prefix_len f bs) 0 h

-- a quote is no digit
quote_no_digit : (b : ℕ) → b ≡ 39 → is_ascii_hexdigit b ≡ false
quote_no_digit b h = ap (λ (z : ℕ). is_ascii_hexdigit z) h

-- pairs of digits up to a quote: there are as many bytes as digits and one more
record FitsDigits (bs : List ℕ) (m : ℕ) : Type 0 where
  size : m ≡ suc (prefix_len is_ascii_hexdigit bs)
  even : prefix_len is_ascii_hexdigit bs % 2 ≡ 0
  quoted : get_or bs (prefix_len is_ascii_hexdigit bs) 0 ≡ 39

-- what is pairs of digits and a quote has that many bytes
hex_fits : (bs : List ℕ) (m : ℕ) → m ≤ length bs → is_hex_to_quote (take m bs) ≡ true → FitsDigits bs m
hex_fits bs zero l h = absurd cc
hex_fits [] (suc m) l h = absurd cc
hex_fits (b ∷ bs) (suc zero) l h =
    let quote : b ≡ 39 = eqb-true b 39 h in
    let none : prefix_len is_ascii_hexdigit (b ∷ bs) ≡ 0 = prefix_stop is_ascii_hexdigit b bs (quote_no_digit b quote) in
    record {
      size = omega (arith, none);
      even = ap (λ (z : ℕ). z % 2) none;
      quoted = subst (λ (z : ℕ). get_or (b ∷ bs) z 0 ≡ 39) (sym none) quote;
    }
hex_fits (b ∷ []) (suc (suc m)) l h = absurd (omega arith)
hex_fits (b ∷ c ∷ bs) (suc (suc m)) l h =
    let p = and_parts (is_ascii_hexdigit b && is_ascii_hexdigit c) (is_hex_to_quote (take m bs)) h in
    let q = and_parts (is_ascii_hexdigit b) (is_ascii_hexdigit c) p.0 in
    let less : FitsDigits bs m = hex_fits bs m (omega arith) p.1 in
    let n : ℕ = prefix_len is_ascii_hexdigit bs in
    let two : prefix_len is_ascii_hexdigit (b ∷ c ∷ bs) ≡ suc (suc n) =
    prefix_more is_ascii_hexdigit b (c ∷ bs) q.0 ∙ ap (λ (z : ℕ). suc z) (prefix_more is_ascii_hexdigit c bs q.1) in
    record {
      size = omega (arith, two, less.size);
      even = omega (arith, two, less.even);
      quoted = subst (λ (z : ℕ). get_or (b ∷ c ∷ bs) z 0 ≡ 39) (sym two) less.quoted;
    }

-- an even number of digits and a quote are pairs of digits and a quote
hex_spelled : (bs : List ℕ) (n : ℕ) → n ≡ prefix_len is_ascii_hexdigit bs → n % 2 ≡ 0 → n < length bs → get_or bs n 0 ≡ 39 → is_hex_to_quote (take (suc n) bs) ≡ true
hex_spelled [] n e even l q = absurd (omega arith)
hex_spelled (b ∷ bs) zero e even l q = eq-eqb b 39 q
hex_spelled (b ∷ bs) (suc zero) e even l q = absurd (omega arith)
hex_spelled (b ∷ []) (suc (suc n)) e even l q = absurd (omega arith)
hex_spelled (b ∷ c ∷ bs) (suc (suc n)) e even l q =
    let first : is_ascii_hexdigit b ≡ true = prefix_len_passes is_ascii_hexdigit (b ∷ c ∷ bs) 0 0 (omega (arith, e)) in
    let second : is_ascii_hexdigit c ≡ true = prefix_len_passes is_ascii_hexdigit (b ∷ c ∷ bs) 1 0 (omega (arith, e)) in
    let two : prefix_len is_ascii_hexdigit (b ∷ c ∷ bs) ≡ suc (suc (prefix_len is_ascii_hexdigit bs)) =
    prefix_more is_ascii_hexdigit b (c ∷ bs) first ∙ ap (λ (z : ℕ). suc z) (prefix_more is_ascii_hexdigit c bs second) in
    and_from _ _ (and_from _ _ first second) (hex_spelled bs n (omega (arith, e, two)) (omega (arith, even)) (omega arith) q)

-- pairs of digits and a quote stand at the place
pub hex_ends : (text : List ℕ) (from quote : ℕ) → from ≤ length text → quote ≡ run_end is_ascii_hexdigit text from → (quote - from) % 2 ≡ 0 → quote < length text → get_or text quote 0 ≡ 39 →
    EndsAt is_hex_to_quote text from (length text) (quote + 1)
hex_ends text from quote l e even inside q =
    let rest : List ℕ = drop from text in
    let n : ℕ = prefix_len is_ascii_hexdigit rest in
    let size : length rest ≡ length text - from = length-drop from text in
    let count : quote - from ≡ n = omega (arith, e) in
    let last : quote ≡ from + n = e in
    let upto : suc n ≡ quote + 1 - from = omega (arith, e) in
    let even_count : n % 2 ≡ 0 = subst (λ (z : ℕ). z % 2 ≡ 0) count even in
    let quoted : get_or rest n 0 ≡ 39 = get_or-drop from text n 0 ∙ (ap (λ (z : ℕ). get_or text z 0) (sym last) ∙ q) in
    record {
      rising = omega (arith, e);
      inside = omega arith;
      passed = subst (λ (z : ℕ). is_hex_to_quote (take z rest) ≡ true) upto (hex_spelled rest n refl even_count (omega (arith, size, e)) quoted);
      longest = λ m over within h. (let fits : FitsDigits rest (m - from) = hex_fits rest (m - from) (omega (arith, size)) h in omega (arith, e, fits.size));
    }

-- they do not stand there
pub hex_nowhere : (text : List ℕ) (from quote : ℕ) → from ≤ length text → quote ≡ run_end is_ascii_hexdigit text from →
    ((quote - from) % 2 ≡ 0 → quote < length text → get_or text quote 0 ≡ 39 → ⊥) → EndsNowhere is_hex_to_quote text from (length text)
hex_nowhere text from quote l e unfit =
    let rest : List ℕ = drop from text in
    let n : ℕ = prefix_len is_ascii_hexdigit rest in
    let size : length rest ≡ length text - from = length-drop from text in
    let count : n ≡ quote - from = omega (arith, e) in
    record {
      none = λ m over within h.
          (let fits : FitsDigits rest (m - from) = hex_fits rest (m - from) (omega (arith, size)) h in
          unfit (subst (λ (z : ℕ). z % 2 ≡ 0) count fits.even) (omega (arith, e, fits.size))
          (ap (λ (z : ℕ). get_or text z 0) e ∙ (sym (get_or-drop from text n 0) ∙ fits.quoted)));
    }
