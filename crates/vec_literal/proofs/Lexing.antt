-- The tokens of a text, one after the other: white space is left out, and then the longest token is taken.
use Rattle.std.proofs.Common.{◌≡◌, ℕ, zero, suc, ◌+◌, ◌-◌, ◌<◌, ◌≤◌, true, false, cond, inl, inr, List, [], ◌∷◌, length, take, drop, get_or, Option, Some, None, refl, sym, ◌∙◌, ap, subst, arith, length-drop}
use Rattle.std.proofs.lemmas.Bool.{both_ways, cond-true, cond-false, cond_both, cases_eq}
use Rattle.std.proofs.lemmas.List.{drop_more, drop-drop, drop_all, get_or-drop}
use Rattle.std.proofs.lemmas.List.Sums.{prefix_len-le-length, prefix_len_passes, prefix_len_stops}
use Rattle.std.specs.List.{prefix_len}
use Rattle.vec_literal.specs.declared.token.Token.{Token as Found}
use Rattle.vec_literal.specs.declared.token.TokenSort.{TokenSort}
use Rattle.vec_literal.specs.declared.token.TokenSort.TheVariants as sorts
use Rattle.vec_literal.specs.Tokens.{is_white, spells_front, Longest, NoneIn, IsLongest, IsWhite, Token, token_of, bad_at, sort_of, or_shorter, longest_of, with_first, tokens_of, tokens}
use Rattle.vec_literal.specs.inner.Stretches.{run_end}
use Rattle.vec_literal.proofs.Sorts.{one_sort}

-- the sort that a front spells, as it is computed

sort_none : (n : ℕ) (bytes : List ℕ) → ((s : TokenSort) → spells_front s n bytes ≡ true → ⊥) → sort_of n bytes ≡ None
sort_none n bytes h =
    let P : Option TokenSort → Type 0 = λ o. o ≡ None in
    cond_both (spells_front sorts.Word n bytes) _ _ P (λ e. absurd (h sorts.Word e))
    (λ a. cond_both (spells_front sorts.Number n bytes) _ _ P (λ e. absurd (h sorts.Number e))
    (λ b. cond_both (spells_front sorts.TextLit n bytes) _ _ P (λ e. absurd (h sorts.TextLit e))
    (λ c. cond_both (spells_front sorts.BlobLit n bytes) _ _ P (λ e. absurd (h sorts.BlobLit e))
    (λ d. cond_both (spells_front sorts.Param n bytes) _ _ P (λ e. absurd (h sorts.Param e))
    (λ f. cond_both (spells_front sorts.Mark n bytes) _ _ P (λ e. absurd (h sorts.Mark e)) (λ g. refl))))))

-- every sort fails
record Unspelled (n : ℕ) (bytes : List ℕ) : Type 0 where
  word : spells_front sorts.Word n bytes ≡ false
  number : spells_front sorts.Number n bytes ≡ false
  text : spells_front sorts.TextLit n bytes ≡ false
  blob : spells_front sorts.BlobLit n bytes ≡ false
  param : spells_front sorts.Param n bytes ≡ false
  mark : spells_front sorts.Mark n bytes ≡ false

unspelled_no : (n : ℕ) (bytes : List ℕ) (s : TokenSort) → Unspelled n bytes → spells_front s n bytes ≡ true → ⊥
unspelled_no n bytes sorts.Word u h = both_ways _ u.word h
unspelled_no n bytes sorts.Number u h = both_ways _ u.number h
unspelled_no n bytes sorts.TextLit u h = both_ways _ u.text h
unspelled_no n bytes sorts.BlobLit u h = both_ways _ u.blob h
unspelled_no n bytes sorts.Param u h = both_ways _ u.param h
unspelled_no n bytes sorts.Mark u h = both_ways _ u.mark h

sort_some : (s : TokenSort) (n : ℕ) (bytes : List ℕ) → n ≤ length bytes → spells_front s n bytes ≡ true → sort_of n bytes ≡ Some s
sort_some s n bytes l h =
    let P : Option TokenSort → Type 0 = λ o. o ≡ Some s in
    let same : (t : TokenSort) → spells_front t n bytes ≡ true → Some t ≡ Some s = λ t e. ap (λ (z : TokenSort). (let o : Option TokenSort = Some z in o)) (one_sort t s n n bytes l l e h) in
    cond_both (spells_front sorts.Word n bytes) _ _ P (same sorts.Word)
    (λ a. cond_both (spells_front sorts.Number n bytes) _ _ P (same sorts.Number)
    (λ b. cond_both (spells_front sorts.TextLit n bytes) _ _ P (same sorts.TextLit)
    (λ c. cond_both (spells_front sorts.BlobLit n bytes) _ _ P (same sorts.BlobLit)
    (λ d. cond_both (spells_front sorts.Param n bytes) _ _ P (same sorts.Param)
    (λ f. cond_both (spells_front sorts.Mark n bytes) _ _ P (same sorts.Mark)
    (λ g. absurd (unspelled_no n bytes s (record { word = a; number = b; text = c; blob = d; param = f; mark = g }) h)))))))

-- the longest front that spells a token, as it is computed

longest_none : (n : ℕ) (bytes : List ℕ) → NoneIn bytes → n ≤ length bytes → longest_of n bytes ≡ None
longest_none zero bytes h l = refl
longest_none (suc n) bytes h l =
    ap (λ (o : Option TokenSort). or_shorter o (suc n) (longest_of n bytes)) (sort_none (suc n) bytes (λ s e. h.none s (suc n) l e)) ∙ longest_none n bytes h (omega arith)

longest_some : (s : TokenSort) (k n : ℕ) (bytes : List ℕ) → Longest s k bytes → k ≤ n → n ≤ length bytes → longest_of n bytes ≡ Some (s, k)
longest_some s k zero bytes h l m = absurd (omega (arith, h.some))
longest_some s k (suc n) bytes h l m =
    elim (cases_eq k (suc n)) [
      | inl e ↦ ap (λ (o : Option TokenSort). or_shorter o (suc n) (longest_of n bytes)) (sort_some s (suc n) bytes m (subst (λ (z : ℕ). spells_front s z bytes ≡ true) e h.spelled)) ∙
          ap (λ (z : ℕ). (let o : Option (TokenSort × ℕ) = Some (s, z) in o)) (sym e)
      | inr e ↦ ap (λ (o : Option TokenSort). or_shorter o (suc n) (longest_of n bytes)) (sort_none (suc n) bytes (λ t q. h.longest t (suc n) (omega arith) m q)) ∙
          longest_some s k n bytes h (omega arith) (omega arith)
    ]

-- it takes a byte or more

abbrev size_of : Option (TokenSort × ℕ) → ℕ
size_of None = 0
size_of (Some x) = x.1

or_positive : (o : Option TokenSort) (n : ℕ) (shorter : Option (TokenSort × ℕ)) (x : TokenSort × ℕ) → or_shorter o (suc n) shorter ≡ Some x → (shorter ≡ Some x → 0 < x.1) → 0 < x.1
or_positive None n shorter x h f = f h
or_positive (Some s) n shorter x h f = let e : suc n ≡ x.1 = ap (λ (o : Option (TokenSort × ℕ)). size_of o) h in omega arith

longest_positive : (n : ℕ) (bytes : List ℕ) (x : TokenSort × ℕ) → longest_of n bytes ≡ Some x → 0 < x.1
longest_positive zero bytes x h = absurd cc
longest_positive (suc n) bytes x h = or_positive (sort_of (suc n) bytes) n (longest_of n bytes) x h (longest_positive n bytes x)

-- any number that is at least the number of bytes gives the same tokens

first_same : (place : ℕ) (bytes : List ℕ) (f g : ℕ → List Token) (o : Option (TokenSort × ℕ)) → ((x : TokenSort × ℕ) → o ≡ Some x → f x.1 ≡ g x.1) → with_first place bytes f o ≡ with_first place bytes g o
first_same place bytes f g None h = refl
first_same place bytes f g (Some x) h = ap (λ (z : List Token). record { sort = Some x.0; spelling = take x.1 bytes; place = place } ∷ z) (h x refl)

pub tokens_fuel : (n m place : ℕ) (bytes : List ℕ) → length bytes ≤ n → length bytes ≤ m → tokens_of n place bytes ≡ tokens_of m place bytes
unfolding tokens_of
tokens_fuel zero zero place bytes h k = refl
tokens_fuel zero (suc m) place [] h k = refl
tokens_fuel zero (suc m) place (b ∷ bs) h k = absurd (omega arith)
tokens_fuel (suc n) zero place [] h k = refl
tokens_fuel (suc n) zero place (b ∷ bs) h k = absurd (omega arith)
tokens_fuel (suc n) (suc m) place [] h k = refl
tokens_fuel (suc n) (suc m) place (b ∷ bs) h k =
    ap (λ (z : List Token). cond (is_white b) z (with_first place (b ∷ bs) (λ i. tokens_of n (place + i) (drop i (b ∷ bs))) (longest_of (length (b ∷ bs)) (b ∷ bs))))
    (tokens_fuel n m (place + 1) bs (omega arith) (omega arith)) ∙
    ap (λ (z : List Token). cond (is_white b) (tokens_of m (place + 1) bs) z)
    (first_same place (b ∷ bs) (λ i. tokens_of n (place + i) (drop i (b ∷ bs))) (λ i. tokens_of m (place + i) (drop i (b ∷ bs))) (longest_of (length (b ∷ bs)) (b ∷ bs))
    (λ x e. (let some : 0 < x.1 = longest_positive (length (b ∷ bs)) (b ∷ bs) x e in
    tokens_fuel n m (place + x.1) (drop x.1 (b ∷ bs)) (omega (arith, length-drop x.1 (b ∷ bs))) (omega (arith, length-drop x.1 (b ∷ bs))))))

-- white space gives no token

white_step : (text : List ℕ) (i : ℕ) → i < length text → is_white (get_or text i 0) ≡ true → tokens text i ≡ tokens text (i + 1)
unfolding tokens tokens_of
white_step text i l w = ap (λ (z : List ℕ). tokens_of (length z) i z) (drop_more text i 0 l) ∙ cond-true (is_white (get_or text i 0)) _ _ w

white_steps : (n : ℕ) (text : List ℕ) (from start : ℕ) → from + n ≡ start → start ≤ length text → ((k : ℕ) → from ≤ k → k < start → is_white (get_or text k 0) ≡ true) → tokens text from ≡ tokens text start
white_steps zero text from start e l w = ap (λ (z : ℕ). tokens text z) (let same : from ≡ start = omega arith in same)
white_steps (suc n) text from start e l w =
    white_step text from (omega arith) (w from (omega arith) (omega arith)) ∙
    white_steps n text (from + 1) start (omega arith) l (λ k h m. w k (omega arith) m)

pub white_left_out : (text : List ℕ) (from start : ℕ) → IsWhite text from start → tokens text from ≡ tokens text start
white_left_out text from start w = white_steps (start - from) text from start (omega (arith, w.rising)) w.inside w.white

-- the run of white space from a place on, and the byte at its end
pub white_run : (text : List ℕ) (from start : ℕ) → from ≤ length text → start ≡ run_end is_white text from → IsWhite text from start
white_run text from start l e =
    let rest : List ℕ = drop from text in
    let room : prefix_len is_white rest ≤ length rest = prefix_len-le-length is_white rest in
    record {
      rising = omega (arith, e);
      inside = omega (arith, e, room, length-drop from text);
      white = λ k h m.
          (let at : from + (k - from) ≡ k = omega arith in
          ap (λ (z : ℕ). is_white (get_or text z 0)) (sym at) ∙
          (ap (λ (z : ℕ). is_white z) (sym (get_or-drop from text (k - from) 0)) ∙ prefix_len_passes is_white rest (k - from) 0 (omega (arith, e))));
    }

pub white_stops : (text : List ℕ) (from start : ℕ) → start ≡ run_end is_white text from → start < length text → is_white (get_or text start 0) ≡ false
white_stops text from start e l =
    let rest : List ℕ = drop from text in
    ap (λ (z : ℕ). is_white (get_or text z 0)) e ∙
    (ap (λ (z : ℕ). is_white z) (sym (get_or-drop from text (prefix_len is_white rest) 0)) ∙ prefix_len_stops is_white rest 0 (omega (arith, e, length-drop from text)))

-- behind the white space: the end, a byte at which no token can be read, or the longest token

pub tokens_end : (text : List ℕ) (at : ℕ) → at ≡ length text → tokens text at ≡ []
unfolding tokens tokens_of
tokens_end text at e = ap (λ (z : List ℕ). tokens_of (length z) at z) (drop_all at text (omega (arith, e)))

first_step : (text : List ℕ) (at : ℕ) → at < length text → is_white (get_or text at 0) ≡ false →
    tokens text at ≡ with_first at (get_or text at 0 ∷ drop (at + 1) text) (λ k. tokens_of (length (drop (at + 1) text)) (at + k) (drop k (get_or text at 0 ∷ drop (at + 1) text)))
    (longest_of (length (get_or text at 0 ∷ drop (at + 1) text)) (get_or text at 0 ∷ drop (at + 1) text))
unfolding tokens tokens_of
first_step text at l w = ap (λ (z : List ℕ). tokens_of (length z) at z) (drop_more text at 0 l) ∙ cond-false (is_white (get_or text at 0)) _ _ w

pub tokens_bad : (text : List ℕ) (at : ℕ) → at < length text → is_white (get_or text at 0) ≡ false → NoneIn (drop at text) → tokens text at ≡ bad_at at ∷ []
tokens_bad text at l w h =
    let bytes : List ℕ = get_or text at 0 ∷ drop (at + 1) text in
    first_step text at l w ∙
    ap (λ (o : Option (TokenSort × ℕ)). with_first at (get_or text at 0 ∷ drop (at + 1) text) (λ k. tokens_of (length (drop (at + 1) text)) (at + k) (drop k (get_or text at 0 ∷ drop (at + 1) text))) o)
    (longest_none (length bytes) bytes (subst (λ (z : List ℕ). NoneIn z) (drop_more text at 0 l) h) (omega arith))

pub tokens_found : (text : List ℕ) (t : Found) → IsLongest text t → is_white (get_or text t.from 0) ≡ false → tokens text t.from ≡ token_of text t ∷ tokens text t.upto
unfolding tokens
tokens_found text t h w =
    let k : ℕ = t.upto - t.from in
    let bytes : List ℕ = get_or text t.from 0 ∷ drop (t.from + 1) text in
    let some : 0 < t.upto - t.from = h.longest.some in
    let l : t.from < length text = omega (arith, h.rising, h.inside, some) in
    let at : t.from + k ≡ t.upto = omega (arith, h.rising) in
    let e : drop t.from text ≡ bytes = drop_more text t.from 0 l in
    let room : k ≤ length bytes = omega (arith, length-drop (t.from + 1) text, h.inside) in
    let longest : longest_of (length bytes) bytes ≡ Some (t.sort, k) =
    longest_some t.sort k (length bytes) bytes (subst (λ (z : List ℕ). Longest t.sort k z) e h.longest) room (omega arith) in
    let left : drop k bytes ≡ drop t.upto text = ap (λ (z : List ℕ). drop k z) (sym e) ∙ (drop-drop k t.from text ∙ ap (λ (z : ℕ). drop z text) at) in
    let others : tokens_of (length (drop (t.from + 1) text)) (t.from + k) (drop k bytes) ≡ tokens text t.upto =
    ap (λ (z : ℕ). tokens_of (length (drop (t.from + 1) text)) z (drop k bytes)) at ∙
    (ap (λ (z : List ℕ). tokens_of (length (drop (t.from + 1) text)) t.upto z) left ∙
    tokens_fuel (length (drop (t.from + 1) text)) (length (drop t.upto text)) t.upto (drop t.upto text)
    (omega (arith, length-drop (t.from + 1) text, length-drop t.upto text, some)) (omega arith)) in
    first_step text t.from l w ∙
    (ap (λ (o : Option (TokenSort × ℕ)). with_first t.from bytes (λ i. tokens_of (length (drop (t.from + 1) text)) (t.from + i) (drop i bytes)) o) longest ∙
    (ap (λ (z : List ℕ). record { sort = Some t.sort; spelling = take k z; place = t.from } ∷ tokens_of (length (drop (t.from + 1) text)) (t.from + k) (drop k bytes)) (sym e) ∙
    ap (λ (z : List Token). token_of text t ∷ z) others))
