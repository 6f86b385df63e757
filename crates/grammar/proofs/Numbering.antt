-- Tokens with their parameters numbered.
use Rattle.std.proofs.Common.{◌≡◌, ℕ, suc, ◌-◌, ◌<◌, ◌≤◌, ◌^◌, nat_le, Bool, true, false, ◌&&◌, inl, inr, List, [], ◌∷◌, ◌++◌, length, drop, Option, Some, None, refl, sym, ◌∙◌, ap, subst, arith}
use Rattle.std.specs.Prelude.{if◌then◌else◌, codes, max, nat_lt}
use Rattle.std.specs.Option.{is_some, option_map}
use Rattle.std.specs.Fmt.{decimal}
use Rattle.std.specs.Str.Parse.{digits_value}
use Rattle.std.proofs.lemmas.Bool.{and_parts, and_from, and_left, and_right, cond-true, cond-false, cases_Bool, both_ways, le-leb, leb-true, lt-leb, cases_lt, lt-ltb, le-ltb, false_from_ne_true}
use Rattle.std.proofs.lemmas.Fmt.{decimal_is_IsNumeral}
use Rattle.std.proofs.lemmas.Slice.Eq.{bytes_eq-Decides}
use Rattle.vec_literal.specs.Tokens.{Token, is_number_text, is_param_text, is_text_literal, is_blob_literal}
use Rattle.vec_literal.specs.declared.token.TokenSort.{TokenSort}
use Rattle.vec_literal.specs.declared.token.TokenSort.TheVariants as sorts
use Rattle.grammar.specs.Grammar.{is_sort, same_sort, keyword, sign, name, number, number_after_minus, text_literal, blob_literal, parameter, parameter_number, fits}
use Rattle.grammar.specs.Parameters.{is_plain, with_number, greatest_after, numbered, numbered_from}
use Rattle.grammar.specs.inner.Reading.{next_in}
use Rattle.grammar.specs.inner.ReaderResults.{first_of, place_of, is_number_up_to, is_well_spelled, is_well_spelled_parameter, AtNumber, AtParameter, next_number, WritesParameter}
use Rattle.grammar.proofs.Places.{next_first, name_is_word, number_next, after_minus_next, text_at, blob_at, told_text, told_blob, implied, param_nonempty, param_digits, param_bare}

-- ---- what stays

pub sort_kept : (o : Option ℕ) (ts : List Token) → (first_of (numbered_from o ts)).sort ≡ (first_of ts).sort
unfolding numbered
sort_kept None ts = refl
sort_kept (Some g) [] = refl
sort_kept (Some g) (t ∷ ts) = refl

pub place_kept : (o : Option ℕ) (end : ℕ) (ts : List Token) → place_of end (numbered_from o ts) ≡ place_of end ts
unfolding numbered
place_kept None end ts = refl
place_kept (Some g) end [] = refl
place_kept (Some g) end (t ∷ ts) = refl

pub sort_spelled : (s : TokenSort) (o : Option ℕ) (ts : List Token) (b : Bool) → is_sort s (first_of (numbered_from o ts)).sort ≡ b → is_sort s (first_of ts).sort ≡ b
sort_spelled s o ts b h = ap (λ (z : Option TokenSort). is_sort s z) (sym (sort_kept o ts)) ∙ h

pub at_kept : (s : TokenSort) (o : Option ℕ) (ts : List Token) (b : Bool) → b ≡ is_sort s (first_of ts).sort → b ≡ is_sort s (first_of (numbered_from o ts)).sort
at_kept s o ts b h = h ∙ ap (λ (z : Option TokenSort). is_sort s z) (sym (sort_kept o ts))

pub placed_kept : (o : Option ℕ) (end : ℕ) (ts : List Token) (p : ℕ) → p ≡ place_of end ts → p ≡ place_of end (numbered_from o ts)
placed_kept o end ts p h = h ∙ sym (place_kept o end ts)

pub none_kept : (o : Option ℕ) → numbered_from o [] ≡ []
unfolding numbered
none_kept None = refl
none_kept (Some g) = refl

pub some_kept : (o : Option ℕ) (t : Token) (ts : List Token) → numbered_from o (t ∷ ts) ≡ [] → ⊥
unfolding numbered
some_kept None t ts h = cc
some_kept (Some g) t ts h = cc

-- a token that is no parameter is not plain
pub not_plain : (t : Token) → is_sort sorts.Param t.sort ≡ false → is_plain t ≡ false
not_plain t h = and_left _ _ h

pub unnumbered : (n : ℕ) (t : Token) → is_plain t ≡ false → with_number n t ≡ t
unnumbered n t h = ap (λ (z : List ℕ). record t { spelling = z }) (cond-false (is_plain t && nat_le n 999) (codes "?" ++ decimal n) t.spelling (and_left _ _ h))

pub first_kept : (o : Option ℕ) (ts : List Token) → is_sort sorts.Param (first_of (numbered_from o ts)).sort ≡ false → first_of (numbered_from o ts) ≡ first_of ts
unfolding numbered
first_kept None ts h = refl
first_kept (Some g) [] h = refl
first_kept (Some g) (t ∷ ts) h = unnumbered (suc g) t (not_plain t h)

-- ---- one token on

pub no_parameter_after : (g : ℕ) (t : Token) → is_sort sorts.Param t.sort ≡ false → greatest_after g t ≡ g
no_parameter_after g t h =
    cond-false (is_plain t) (suc g) (if is_sort sorts.Param t.sort then max g (parameter_number t) else g) (not_plain t h) ∙
    cond-false (is_sort sorts.Param t.sort) (max g (parameter_number t)) g h

pub stepped : (o : Option ℕ) (ts : List Token) → is_sort sorts.Param (first_of (numbered_from o ts)).sort ≡ false → numbered_from o (drop 1 ts) ≡ drop 1 (numbered_from o ts)
unfolding numbered
stepped None ts h = refl
stepped (Some g) [] h = refl
stepped (Some g) (t ∷ ts) h = ap (λ (z : ℕ). numbered z ts) (sym (no_parameter_after g t h))

-- ---- the number of a parameter

number_given : (n : ℕ) (t : Token) → is_plain t ≡ true → n ≤ 999 → parameter_number (with_number n t) ≡ n
number_given n t h l =
    ap (λ (z : List ℕ). digits_value 10 (drop 1 z)) (cond-true (is_plain t && nat_le n 999) (codes "?" ++ decimal n) t.spelling (and_from _ _ h (le-leb n 999 l))) ∙
    (decimal_is_IsNumeral n (omega (arith, l))).1

plain_spelled : (t : Token) → is_plain t ≡ true → t.spelling ≡ codes "?"
plain_spelled t h = (bytes_eq-Decides t.spelling (codes "?")).0 (and_parts _ _ h).1

-- a plain `?` has no number
plain_none : (t : Token) → is_plain t ≡ true → parameter_number t ≡ 0
plain_none t h = ap (λ (z : List ℕ). digits_value 10 (drop 1 z)) (plain_spelled t h)

number_not_given : (n : ℕ) (t : Token) → is_plain t ≡ true → 999 < n → with_number n t ≡ t
number_not_given n t h l = ap (λ (z : List ℕ). record t { spelling = z }) (cond-false (is_plain t && nat_le n 999) (codes "?" ++ decimal n) t.spelling (and_right _ _ (lt-leb n 999 l)))

-- a token of this sort fits by its number
abbrev fits_number : ℕ → Bool
fits_number n = nat_le 1 n && nat_le n 999

fits_by : (t : Token) → is_sort sorts.Param t.sort ≡ true → fits parameter t ≡ fits_number (parameter_number t)
unfolding fits
fits_by t h = ap (λ (b : Bool). b && nat_le 1 (parameter_number t) && nat_le (parameter_number t) 999) h

-- ---- what the reader says

-- the token at hand, which is no parameter
pub spelling_kept : (o : Option ℕ) (ts : List Token) (bytes : List ℕ) → is_sort sorts.Param (first_of (numbered_from o ts)).sort ≡ false → bytes ≡ (first_of ts).spelling → bytes ≡ (first_of (numbered_from o ts)).spelling
spelling_kept o ts bytes h e = e ∙ ap (λ (t : Token). t.spelling) (sym (first_kept o ts h))

pub told_kept : (o : Option ℕ) (ts : List Token) → is_sort sorts.Param (first_of (numbered_from o ts)).sort ≡ false → is_well_spelled (first_of ts) ≡ true → is_well_spelled (first_of (numbered_from o ts)) ≡ true
told_kept o ts h e = ap (λ (t : Token). is_well_spelled t) (first_kept o ts h) ∙ e

-- a sort that is no parameter's
sort_apart : (s : TokenSort) (o : Option TokenSort) → same_sort s sorts.Param ≡ false → is_sort s o ≡ true → is_sort sorts.Param o ≡ false
sort_apart s None a h = refl
sort_apart s (Some sorts.Word) a h = refl
sort_apart s (Some sorts.Number) a h = refl
sort_apart s (Some sorts.TextLit) a h = refl
sort_apart s (Some sorts.BlobLit) a h = refl
sort_apart s (Some sorts.Param) a h = absurd (both_ways (same_sort s sorts.Param) a h)
sort_apart s (Some sorts.Mark) a h = refl

pub word_apart : (o : Option TokenSort) → is_sort sorts.Word o ≡ true → is_sort sorts.Param o ≡ false
word_apart o h = sort_apart sorts.Word o refl h

pub mark_apart : (o : Option TokenSort) → is_sort sorts.Mark o ≡ true → is_sort sorts.Param o ≡ false
mark_apart o h = sort_apart sorts.Mark o refl h

pub number_apart : (o : Option TokenSort) → is_sort sorts.Number o ≡ true → is_sort sorts.Param o ≡ false
number_apart o h = sort_apart sorts.Number o refl h

pub text_apart : (o : Option TokenSort) → is_sort sorts.TextLit o ≡ true → is_sort sorts.Param o ≡ false
text_apart o h = sort_apart sorts.TextLit o refl h

pub blob_apart : (o : Option TokenSort) → is_sort sorts.BlobLit o ≡ true → is_sort sorts.Param o ≡ false
blob_apart o h = sort_apart sorts.BlobLit o refl h

-- what fits such a place is no parameter

pub word_no_parameter : (w : List ℕ) (ts : List Token) → next_in (keyword w ∷ []) ts ≡ true → is_sort sorts.Param (first_of ts).sort ≡ false
unfolding fits
word_no_parameter w ts h = word_apart (first_of ts).sort (and_parts _ _ (sym (next_first (keyword w) ts) ∙ h)).0

pub mark_no_parameter : (m : List ℕ) (ts : List Token) → next_in (sign m ∷ []) ts ≡ true → is_sort sorts.Param (first_of ts).sort ≡ false
unfolding fits
mark_no_parameter m ts h = mark_apart (first_of ts).sort (and_parts _ _ (sym (next_first (sign m) ts) ∙ h)).0

pub name_no_parameter : (ts : List Token) → next_in (name ∷ []) ts ≡ true → is_sort sorts.Param (first_of ts).sort ≡ false
name_no_parameter ts h = word_apart (first_of ts).sort (name_is_word ts h)

pub number_no_parameter : (greatest : ℕ) (ts : List Token) → is_number_up_to greatest (first_of ts) ≡ true → is_sort sorts.Param (first_of ts).sort ≡ false
number_no_parameter greatest ts h = number_apart (first_of ts).sort (and_parts _ _ h).0

pub text_no_parameter : (ts : List Token) → next_in (text_literal ∷ []) ts ≡ true → is_sort sorts.Param (first_of ts).sort ≡ false
text_no_parameter ts h = text_apart (first_of ts).sort (text_at ts ∙ h)

pub blob_no_parameter : (ts : List Token) → next_in (blob_literal ∷ []) ts ≡ true → is_sort sorts.Param (first_of ts).sort ≡ false
blob_no_parameter ts h = blob_apart (first_of ts).sort (blob_at ts ∙ h)

-- what numbers fit

pub number_taken : (ts : List Token) → is_number_up_to (2 ^ 63 - 1) (first_of ts) ≡ true → next_in (number ∷ []) ts ≡ true
number_taken ts h = number_next ts ∙ h

pub number_missed : (ts : List Token) → is_number_up_to (2 ^ 63 - 1) (first_of ts) ≡ false → next_in (number ∷ []) ts ≡ false
number_missed ts h = number_next ts ∙ h

pub after_minus_taken : (ts : List Token) → is_number_up_to (2 ^ 63) (first_of ts) ≡ true → next_in (number_after_minus ∷ []) ts ≡ true
after_minus_taken ts h = after_minus_next ts ∙ h

pub after_minus_missed : (ts : List Token) → is_number_up_to (2 ^ 63) (first_of ts) ≡ false → next_in (number_after_minus ∷ []) ts ≡ false
after_minus_missed ts h = after_minus_next ts ∙ h

pub number_tested : (r : Option ℕ) (ts : List Token) → AtNumber (2 ^ 63 - 1) r ts → is_some r ≡ next_in (number ∷ []) ts
number_tested None ts h = sym (number_missed ts h)
number_tested (Some n) ts h = sym (number_taken ts h.0)

-- literals at hand are spelled as such

pub text_spelled : (ts : List Token) (bytes : List ℕ) → is_well_spelled (first_of ts) ≡ true → bytes ≡ (first_of ts).spelling → next_in (text_literal ∷ []) ts ≡ true → is_text_literal bytes ≡ true
text_spelled ts bytes h e k = ap (λ (z : List ℕ). is_text_literal z) e ∙ told_text (first_of ts) h (text_at ts ∙ k)

pub blob_spelled : (ts : List Token) (bytes : List ℕ) → is_well_spelled (first_of ts) ≡ true → bytes ≡ (first_of ts).spelling → next_in (blob_literal ∷ []) ts ≡ true → is_blob_literal bytes ≡ true
blob_spelled ts bytes h e k = ap (λ (z : List ℕ). is_blob_literal z) e ∙ told_blob (first_of ts) h (blob_at ts ∙ k)

-- ---- parameters

-- digits behind a `?`
pub digits_numeral : (t : Token) (digits : List ℕ) → is_sort sorts.Param t.sort ≡ true → is_well_spelled_parameter t ≡ true → digits ≡ drop 1 t.spelling → (length digits ≡ 0 → ⊥) → is_number_text digits ≡ true
digits_numeral t digits s h e some = param_digits t.spelling digits (implied (is_sort sorts.Param t.sort) (is_param_text t.spelling) h s) e some

-- a parameter's text has a byte at least
pub param_some : (t : Token) → is_sort sorts.Param t.sort ≡ true → is_well_spelled_parameter t ≡ true → 1 ≤ length t.spelling
param_some t s h = param_nonempty t.spelling (implied (is_sort sorts.Param t.sort) (is_param_text t.spelling) h s)

-- a parameter without digits is plain
no_digits_plain : (t : Token) → is_sort sorts.Param t.sort ≡ true → is_well_spelled_parameter t ≡ true → length (drop 1 t.spelling) ≡ 0 → is_plain t ≡ true
no_digits_plain t s h e = and_from _ _ s ((bytes_eq-Decides t.spelling (codes "?")).1 (param_bare t.spelling (implied (is_sort sorts.Param t.sort) (is_param_text t.spelling) h s) e))

digits_not_plain : (t : Token) → (length (drop 1 t.spelling) ≡ 0 → ⊥) → is_plain t ≡ false
digits_not_plain t some = false_from_ne_true _ (λ h. some (ap (λ (z : List ℕ). length (drop 1 z)) (plain_spelled t h)))

param_fits : (ts : List Token) → is_sort sorts.Param (first_of ts).sort ≡ true → next_in (parameter ∷ []) ts ≡ fits_number (parameter_number (first_of ts))
param_fits ts s = next_first parameter ts ∙ fits_by (first_of ts) s

-- the number that a plain `?` gets
next_fits : (g : ℕ) (t : Token) (us : List Token) → is_sort sorts.Param t.sort ≡ true → is_plain t ≡ true → AtParameter (next_number (Some g)) (with_number (suc g) t ∷ us)
next_fits g t us s p = elim (cases_lt g 999) [
  | inl l ↦
      (let given : parameter_number (with_number (suc g) t) ≡ suc g = number_given (suc g) t p (omega (arith, l)) in
      let fit : next_in (parameter ∷ []) (with_number (suc g) t ∷ us) ≡ true = param_fits (with_number (suc g) t ∷ us) s ∙ (ap (λ (n : ℕ). fits_number n) given ∙ and_from _ _ (le-leb 1 (suc g) (omega arith)) (le-leb (suc g) 999 (omega (arith, l)))) in
      subst (λ (o : Option ℕ). AtParameter o (with_number (suc g) t ∷ us)) (sym (cond-true (nat_lt g 999) (Some (suc g)) None (lt-ltb g 999 l))) (fit, sym given))
  | inr l ↦
      (let same : with_number (suc g) t ≡ t = number_not_given (suc g) t p (omega (arith, l)) in
      let miss : next_in (parameter ∷ []) (with_number (suc g) t ∷ us) ≡ false = param_fits (with_number (suc g) t ∷ us) s ∙ ap (λ (n : ℕ). fits_number n) (ap (λ (u : Token). parameter_number u) same ∙ plain_none t p) in
      subst (λ (o : Option ℕ). AtParameter o (with_number (suc g) t ∷ us)) (sym (cond-false (nat_lt g 999) (Some (suc g)) None (le-ltb g 999 l))) miss)
]

pub plain_at : (o : Option ℕ) (ts : List Token) → is_sort sorts.Param (first_of ts).sort ≡ true → is_well_spelled_parameter (first_of ts) ≡ true → length (drop 1 (first_of ts).spelling) ≡ 0 → AtParameter (next_number o) (numbered_from o ts)
unfolding numbered
plain_at None ts s h e = param_fits ts s ∙ ap (λ (n : ℕ). fits_number n) (plain_none (first_of ts) (no_digits_plain (first_of ts) s h e))
plain_at (Some g) [] s h e = absurd cc
plain_at (Some g) (t ∷ us) s h e = next_fits g t (numbered (greatest_after g t) us) s (no_digits_plain t s h e)

-- a parameter with digits stays as it is
digits_kept : (o : Option ℕ) (ts : List Token) → (length (drop 1 (first_of ts).spelling) ≡ 0 → ⊥) → first_of (numbered_from o ts) ≡ first_of ts
unfolding numbered
digits_kept None ts some = refl
digits_kept (Some g) [] some = refl
digits_kept (Some g) (t ∷ us) some = unnumbered (suc g) t (digits_not_plain t some)

written_at : (ts : List Token) (digits : List ℕ) (r : Option ℕ) → is_sort sorts.Param (first_of ts).sort ≡ true → digits ≡ drop 1 (first_of ts).spelling → WritesParameter r digits → AtParameter r ts
written_at ts digits None s e w = param_fits ts s ∙ (ap (λ (z : List ℕ). fits_number (digits_value 10 z)) (sym e) ∙ w)
written_at ts digits (Some n) s e w = (param_fits ts s ∙ (ap (λ (z : List ℕ). fits_number (digits_value 10 z)) (sym e) ∙ w.0), w.1 ∙ ap (λ (z : List ℕ). digits_value 10 z) e)

pub digits_at : (o : Option ℕ) (ts : List Token) (digits : List ℕ) (r : Option ℕ) → is_sort sorts.Param (first_of ts).sort ≡ true → digits ≡ drop 1 (first_of ts).spelling → (length digits ≡ 0 → ⊥) → WritesParameter r digits → AtParameter r (numbered_from o ts)
digits_at o ts digits r s e some w =
    let kept : first_of (numbered_from o ts) ≡ first_of ts = digits_kept o ts (λ z. some (ap (λ (x : List ℕ). length x) e ∙ z)) in
    written_at (numbered_from o ts) digits r (ap (λ (t : Token). is_sort sorts.Param t.sort) kept ∙ s) (e ∙ ap (λ (t : Token). drop 1 t.spelling) (sym kept)) w

pub no_parameter_at : (ts : List Token) → is_sort sorts.Param (first_of ts).sort ≡ false → AtParameter None ts
unfolding fits
no_parameter_at ts h = next_first parameter ts ∙ and_left _ _ (and_left _ _ h)

pub parameter_tested : (r : Option ℕ) (ts : List Token) → AtParameter r ts → is_some r ≡ next_in (parameter ∷ []) ts
parameter_tested None ts h = sym h
parameter_tested (Some n) ts h = sym h.0

-- the greatest number, once a parameter is passed

fitting_sort : (t : Token) → fits parameter t ≡ true → is_sort sorts.Param t.sort ≡ true
unfolding fits
fitting_sort t h = (and_parts _ _ (and_parts _ _ h).0).0

-- zero fits no place
none_at_zero : (t : Token) → fits parameter t ≡ true → parameter_number t ≡ 0 → ⊥
none_at_zero t h e = both_ways (fits parameter t) (fits_by t (fitting_sort t h) ∙ ap (λ (n : ℕ). fits_number n) e) h

greatest_with : (g n : ℕ) (t : Token) → fits parameter (with_number (suc g) t) ≡ true → n ≡ parameter_number (with_number (suc g) t) → greatest_after g t ≡ max g n
greatest_with g n t h e = elim (cases_Bool (is_plain t)) [
  | inl p ↦ elim (cases_lt g 999) [
    | inl l ↦
        (let given : n ≡ suc g = e ∙ number_given (suc g) t p (omega (arith, l)) in
        let larger : suc g ≡ max g n = omega (arith, given) in
        cond-true (is_plain t) (suc g) _ p ∙ larger)
    | inr l ↦
        (let same : with_number (suc g) t ≡ t = number_not_given (suc g) t p (omega (arith, l)) in
        absurd (none_at_zero (with_number (suc g) t) h (ap (λ (u : Token). parameter_number u) same ∙ plain_none t p)))
  ]
  | inr p ↦
      (let same : with_number (suc g) t ≡ t = unnumbered (suc g) t p in
      let number : parameter_number t ≡ n = sym (e ∙ ap (λ (u : Token). parameter_number u) same) in
      let sort : is_sort sorts.Param t.sort ≡ true = fitting_sort (with_number (suc g) t) h in
      cond-false (is_plain t) (suc g) _ p ∙ (cond-true (is_sort sorts.Param t.sort) (max g (parameter_number t)) g sort ∙ ap (λ (k : ℕ). max g k) number))
]

pub parameter_stepped : (o : Option ℕ) (n : ℕ) (ts : List Token) → AtParameter (Some n) (numbered_from o ts) → numbered_from (option_map (λ g. max g n) o) (drop 1 ts) ≡ drop 1 (numbered_from o ts)
unfolding numbered
parameter_stepped None n ts h = refl
parameter_stepped (Some g) n [] h = refl
parameter_stepped (Some g) n (t ∷ us) h =
    ap (λ (z : ℕ). numbered z us) (sym (greatest_with g n t (sym (next_first parameter (with_number (suc g) t ∷ numbered (greatest_after g t) us)) ∙ h.0) h.1))

pub parameter_small : (n : ℕ) (ts : List Token) → next_in (parameter ∷ []) ts ≡ true → n ≡ parameter_number (first_of ts) → n ≤ 999
unfolding fits
parameter_small n ts h e =
    let small : nat_le (parameter_number (first_of ts)) 999 ≡ true = (and_parts _ _ (sym (next_first parameter ts) ∙ h)).1 in
    let few : parameter_number (first_of ts) ≤ 999 = leb-true (parameter_number (first_of ts)) 999 small in
    omega (arith, e, few)
