-- Text literals: parts without a quote, and between them doubled quotes.
use Rattle.std.proofs.Common.{◌≡◌, ℕ, suc, ◌+◌, Bool, true, false, inl, inr, List, [], ◌∷◌, ◌++◌, length, drop, get_or, Option, Some, None, ◌==◌, refl, sym, ◌∙◌, ap, subst, arith, length-append}
use Rattle.std.proofs.lemmas.Bool.{and_parts, both_ways, not-true, cond-false, cases_Bool, cases_eq, false_from_ne_true, ne_eqb}
use Rattle.std.proofs.lemmas.List.{append-nil, drop-drop, take_at, drop_at, get_or_at}
use Rattle.std.proofs.lemmas.Str.{IsUtf8-append, IsUtf8-take, IsUtf8-drop, IsUtf8-from_is_utf8, is_utf8-from_IsUtf8, IsCharBoundary-before_ascii, IsCharBoundary-after_ascii, IsUtf8-from_ascii}
use Rattle.std.proofs.lemmas.Str.Ascii.{IsAscii-cons, IsAscii-nil}
use Rattle.std.specs.List.{list_all}
use Rattle.std.specs.Option.{option_map, option_map_or}
use Rattle.std.specs.Prelude.{Result, Ok, Err}
use Rattle.std.specs.Result.{MatchResult, is_ok}
use Rattle.std.specs.Str.{IsUtf8, is_utf8}
use Rattle.vec_literal.specs.Tokens.{unquoted}
use Rattle.vec_literal.specs.inner.Stretches.{is_plain, is_quoted_text}

-- whether there is a text, and it is UTF-8
abbrev is_utf8_some : Option (List ℕ) → Bool
is_utf8_some o = option_map_or is_utf8 o false

-- what stands before and behind a quote is UTF-8 if the whole is, and the other way round

IsUtf8-quote : IsUtf8 (39 ∷ [])
IsUtf8-quote = IsUtf8-from_ascii (39 ∷ []) (IsAscii-cons 39 [] (omega arith) IsAscii-nil)

before_quote : (xs ys : List ℕ) → IsUtf8 (xs ++ 39 ∷ ys) → IsUtf8 xs
before_quote xs ys h =
    let whole : List ℕ = xs ++ 39 ∷ ys in
    let size : length whole ≡ length xs + suc (length ys) = length-append xs (39 ∷ ys) in
    let at : get_or whole (length xs) 0 ≡ 39 = get_or_at xs 39 ys 0 (length xs) refl in
    subst (λ (z : List ℕ). IsUtf8 z) (take_at xs (39 ∷ ys) (length xs) refl)
    (IsUtf8-take whole (length xs) h (IsCharBoundary-before_ascii whole (length xs) (omega (arith, size)) (omega (arith, at))))

after_quote : (xs ys : List ℕ) → IsUtf8 (xs ++ 39 ∷ ys) → IsUtf8 ys
after_quote xs ys h =
    let whole : List ℕ = xs ++ 39 ∷ ys in
    let size : length whole ≡ length xs + suc (length ys) = length-append xs (39 ∷ ys) in
    let at : get_or whole (length xs) 0 ≡ 39 = get_or_at xs 39 ys 0 (length xs) refl in
    let left : drop (length xs + 1) whole ≡ ys =
    sym (drop-drop 1 (length xs) whole) ∙ ap (λ (z : List ℕ). drop 1 z) (drop_at xs (39 ∷ ys) (length xs) refl) in
    subst (λ (z : List ℕ). IsUtf8 z) left
    (IsUtf8-drop whole (length xs + 1) h (IsCharBoundary-after_ascii whole (length xs) h (omega (arith, size)) (omega (arith, at))))

around_quote : (xs ys : List ℕ) → IsUtf8 xs → IsUtf8 ys → IsUtf8 (xs ++ 39 ∷ ys)
around_quote xs ys h k = IsUtf8-append xs (39 ∷ ys) h (IsUtf8-append (39 ∷ []) ys IsUtf8-quote k)

-- two changes of a value in an option are one
pub map_map : (f g : List ℕ → List ℕ) (o : Option (List ℕ)) → option_map f (option_map g o) ≡ option_map (λ x. f (g x)) o
map_map f g None = refl
map_map f g (Some x) = refl

pub map_same : (o : Option (List ℕ)) → o ≡ option_map (λ x. x) o
map_same None = refl
map_same (Some x) = refl

-- what stands before the first quote is read as it is
part_read : (part rest : List ℕ) → list_all is_plain part ≡ true → unquoted false (part ++ rest) ≡ option_map (λ x. part ++ x) (unquoted false rest)
part_read [] rest h = map_same (unquoted false rest)
part_read (b ∷ part) rest h =
    let p = and_parts (is_plain b) (list_all is_plain part) h in
    cond-false (b == 39) _ _ (not-true (b == 39) p.0) ∙
    (ap (λ (o : Option (List ℕ)). option_map (λ x. b ∷ x) o) (part_read part rest p.1) ∙ map_map (λ x. b ∷ x) (λ x. part ++ x) (unquoted false rest))

-- without a quote there is no end
pub part_endless : (part : List ℕ) → list_all is_plain part ≡ true → is_quoted_text part ≡ true → ⊥
part_endless part h e =
    let none : unquoted false part ≡ None = ap (λ (z : List ℕ). unquoted false z) (sym (append-nil part)) ∙ part_read part [] h in
    both_ways (is_quoted_text part) (ap (λ (o : Option (List ℕ)). is_utf8_some o) none) e

-- a quote ends the text if what stands before it is UTF-8
pub part_ends : (part : List ℕ) → list_all is_plain part ≡ true → IsUtf8 part → is_quoted_text (part ++ 39 ∷ []) ≡ true
part_ends part h u =
    ap (λ (o : Option (List ℕ)). is_utf8_some o) (part_read part (39 ∷ []) h) ∙ is_utf8-from_IsUtf8 (part ++ []) (subst (λ (z : List ℕ). IsUtf8 z) (sym (append-nil part)) u)

-- behind a quote that is not doubled nothing follows
pub part_closed : (part : List ℕ) (c : ℕ) (rest : List ℕ) → list_all is_plain part ≡ true → (c ≡ 39 → ⊥) → is_quoted_text (part ++ 39 ∷ c ∷ rest) ≡ true → ⊥
part_closed part c rest h other e =
    let none : unquoted true (c ∷ rest) ≡ None = cond-false (c == 39) _ _ (ne_eqb c 39 other) in
    both_ways (is_quoted_text (part ++ 39 ∷ c ∷ rest))
    (ap (λ (o : Option (List ℕ)). is_utf8_some o) (part_read part (39 ∷ c ∷ rest) h ∙ ap (λ (o : Option (List ℕ)). option_map (λ x. part ++ x) o) none)) e

-- behind a doubled quote the text goes on
quote_over : (part : List ℕ) (o : Option (List ℕ)) → IsUtf8 part → is_utf8_some (option_map (λ x. part ++ x) (option_map (λ x. 39 ∷ x) o)) ≡ is_utf8_some o
quote_over part None u = refl
quote_over part (Some x) u =
    elim (cases_Bool (is_utf8 x)) [
      | inl e ↦ is_utf8-from_IsUtf8 (part ++ 39 ∷ x) (around_quote part x u (IsUtf8-from_is_utf8 x e)) ∙ sym e
      | inr e ↦ false_from_ne_true (is_utf8 (part ++ 39 ∷ x)) (λ h. both_ways (is_utf8 x) e (is_utf8-from_IsUtf8 x (after_quote part x (IsUtf8-from_is_utf8 (part ++ 39 ∷ x) h)))) ∙ sym e
    ]

-- the same of the bytes
pub part_goes_on : (part rest : List ℕ) → list_all is_plain part ≡ true → IsUtf8 part → is_quoted_text (part ++ 39 ∷ 39 ∷ rest) ≡ is_quoted_text rest
part_goes_on part rest h u = ap (λ (o : Option (List ℕ)). is_utf8_some o) (part_read part (39 ∷ 39 ∷ rest) h) ∙ quote_over part (unquoted false rest) u

-- what stands before a quote of a text is UTF-8
quoted_more : (part : List ℕ) (o : Option (List ℕ)) → is_utf8_some (option_map (λ x. part ++ x) (option_map (λ x. 39 ∷ x) o)) ≡ true → IsUtf8 part
quoted_more part None e = absurd cc
quoted_more part (Some x) e = before_quote part x (IsUtf8-from_is_utf8 (part ++ 39 ∷ x) e)

pub part_utf8 : (part rest : List ℕ) → list_all is_plain part ≡ true → is_quoted_text (part ++ 39 ∷ rest) ≡ true → IsUtf8 part
part_utf8 part [] h e =
    subst (λ (z : List ℕ). IsUtf8 z) (append-nil part)
    (IsUtf8-from_is_utf8 (part ++ []) (sym (ap (λ (o : Option (List ℕ)). is_utf8_some o) (part_read part (39 ∷ []) h)) ∙ e))
part_utf8 part (c ∷ rest) h e =
    elim (cases_eq c 39) [
      | inl same ↦ quoted_more part (unquoted false rest)
          (sym (ap (λ (o : Option (List ℕ)). is_utf8_some o) (part_read part (39 ∷ 39 ∷ rest) h)) ∙ subst (λ (z : ℕ). is_quoted_text (part ++ 39 ∷ z ∷ rest) ≡ true) same e)
      | inr other ↦ absurd (part_closed part c rest h other e)
    ]

-- what a clause says of a result that is known to be `Ok` or `Err`
pub ok_given : {T E : Type 0} (r : Result T E) (P : T → Type 0) (Q : E → Type 0) → MatchResult r P Q → is_ok r ≡ true → (x : T) × P x
ok_given (Ok x) P Q h e = (x, h)
ok_given (Err y) P Q h e = absurd cc

pub err_given : {T E : Type 0} (r : Result T E) (P : T → Type 0) (Q : E → Type 0) → MatchResult r P Q → is_ok r ≡ false → (y : E) × Q y
err_given (Ok x) P Q h e = absurd cc
err_given (Err y) P Q h e = (y, h)
