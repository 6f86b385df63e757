-- What text and blob literals enclose.
use Rattle.std.proofs.Common.{◌≡◌, ℕ, suc, cond, min, ◌+◌, ◌-◌, ◌*◌, ◌/◌, ◌%◌, ◌<◌, ◌≤◌, length, take, drop, Bool, true, false, not, inl, inr, List, [], ◌∷◌, ◌++◌, Option, Some, None, Result, Ok, Err, refl, sym, ◌∙◌, ap, subst, arith, length-append, length-drop, append_assoc, get_or}
use Rattle.std.specs.Prelude.{◌==◌, ◌&&◌, if◌then◌else◌, slice_range}
use Rattle.std.specs.Option.{option_map, option_map_or, unwrap_or}
use Rattle.std.specs.Result.{result_err}
use Rattle.std.specs.Char.{digit_value, is_ascii_hexdigit}
use Rattle.std.specs.Str.{IsUtf8, is_utf8}
use Rattle.std.proofs.lemmas.Bool.Decides.{nat_tests}
use Rattle.std.proofs.lemmas.Bool.{and_parts, and_from, cond-true, cond-false, cases_Bool, cases_lt, eqb-true, not-true}
use Rattle.std.proofs.lemmas.List.{take_at, take_rest, drop_all, length-take}
use Rattle.std.proofs.lemmas.Str.{IsUtf8-from_is_utf8}
use Rattle.std.specs.List.{list_all, prefix_len}
use Rattle.vec_literal.specs.inner.Stretches.{is_plain}
use Rattle.hex.specs.Hex.{hex_digit_value}
use Rattle.vec_literal.specs.Bits.{SpellsBits, IsBitsFault}
use Rattle.vec_literal.specs.Int8.{SpellsInt8}
use Rattle.vec_base.specs.Answers.{IsExactAnswer}
use Rattle.vec_literal.specs.declared.int8.LitFault.{LitFault}
use Rattle.vec_literal.specs.declared.int8.LitFault.TheVariants.{Memory}
use Rattle.vec_literal.proofs.BitsLaws.{digit_small}
use Rattle.vec_literal.proofs.FaultLaws.{is_memory, never_refused}
use Rattle.vec_literal.proofs.Int8Laws.{no_quote}
use Rattle.vec_literal.specs.Tokens.{unquoted, enclosed, is_text_literal, is_hex_to_quote, begins_blob, is_blob_literal}
use Rattle.vec_literal.specs.LiteralValues.{text_value, quoted_bytes, undoubled, paired_bytes, blob_value}

-- ---- text literals

-- the bytes end with a quote, and what stands before it is read as the text
record Closed (bytes text : List ℕ) : Type 0 where
  inside : List ℕ
  whole : bytes ≡ inside ++ 39 ∷ []
  value : undoubled false inside ≡ text

-- the text in an option
some_same : (x y : List ℕ) → Some x ≡ Some y → x ≡ y
some_same x y h = ap (λ (o : Option (List ℕ)). unwrap_or o []) h

-- the text behind a byte
behind : (b : ℕ) (o : Option (List ℕ)) (text : List ℕ) → option_map (λ body. b ∷ body) o ≡ Some text → (body : List ℕ) × (o ≡ Some body) × (text ≡ b ∷ body)
behind b None text h = absurd cc
behind b (Some body) text h = (body, refl, sym (some_same (b ∷ body) text h))

-- one byte more in front
longer : (b : ℕ) (bytes body text : List ℕ) → (b == 39) ≡ false → Closed bytes body → text ≡ b ∷ body → Closed (b ∷ bytes) text
longer b bytes body text other c e = record {
  inside = b ∷ c.inside;
  whole = ap (λ (z : List ℕ). b ∷ z) c.whole;
  value = ap (λ (second : Bool). b ∷ undoubled second c.inside) other ∙ (ap (λ (z : List ℕ). b ∷ z) c.value ∙ sym e);
}

-- a doubled quote more in front
doubled : (bytes body text : List ℕ) → Closed bytes body → text ≡ 39 ∷ body → Closed (39 ∷ 39 ∷ bytes) text
doubled bytes body text c e = record {
  inside = 39 ∷ 39 ∷ c.inside;
  whole = ap (λ (z : List ℕ). 39 ∷ 39 ∷ z) c.whole;
  value = ap (λ (z : List ℕ). 39 ∷ z) c.value ∙ sym e;
}

-- the bytes, with the quote before them where it may be the first of two
abbrev from_quote : Bool → List ℕ → List ℕ
from_quote second bytes = if second then 39 ∷ bytes else bytes

closed : (second : Bool) (bytes text : List ℕ) → unquoted second bytes ≡ Some text → Closed (from_quote second bytes) text
closed false [] text h = absurd cc
closed true [] text h = record { inside = []; whole = refl; value = some_same [] text h }
closed false (b ∷ bytes) text h =
    elim (cases_Bool (b == 39)) [
      | inl quote ↦ subst (λ (z : ℕ). Closed (z ∷ bytes) text) (sym (eqb-true b 39 quote)) (closed true bytes text (sym (cond-true (b == 39) _ _ quote) ∙ h))
      | inr other ↦
          (let body = behind b (unquoted false bytes) text (sym (cond-false (b == 39) _ _ other) ∙ h) in
          longer b bytes body.0 text other (closed false bytes body.0 body.1) body.2)
    ]
closed true (b ∷ bytes) text h =
    elim (cases_Bool (b == 39)) [
      | inl quote ↦
          (let body = behind 39 (unquoted false bytes) text (sym (cond-true (b == 39) _ _ quote) ∙ h) in
          subst (λ (z : ℕ). Closed (39 ∷ z ∷ bytes) text) (sym (eqb-true b 39 quote)) (doubled bytes body.0 text (closed false bytes body.0 body.1) body.2))
      | inr other ↦ absurd (let no : None ≡ Some text = sym (cond-false (b == 39) _ _ other) ∙ h in cc)
    ]

-- the parts of a text literal
pub record TextParts (literal : List ℕ) : Type 0 where
  pub inside : List ℕ
  pub whole : literal ≡ 39 ∷ (inside ++ 39 ∷ [])
  pub value : undoubled false inside ≡ text_value literal
  pub utf8 : IsUtf8 (text_value literal)

text_some : (o : Option (List ℕ)) → option_map_or is_utf8 o false ≡ true → (text : List ℕ) × (o ≡ Some text) × IsUtf8 text
text_some None h = absurd cc
text_some (Some text) h = (text, refl, IsUtf8-from_is_utf8 text h)

pub text_parts : (literal : List ℕ) → is_text_literal literal ≡ true → TextParts literal
text_parts [] h = absurd cc
text_parts (b ∷ bytes) h =
    let some = text_some (enclosed (b ∷ bytes)) h in
    let value : text_value (b ∷ bytes) ≡ some.0 = ap (λ (o : Option (List ℕ)). unwrap_or o []) some.1 in
    elim (cases_Bool (b == 39)) [
      | inl quote ↦
          (let c = closed false bytes some.0 (sym (cond-true (b == 39) _ _ quote) ∙ some.1) in
          record {
            inside = c.inside;
            whole = ap (λ (z : ℕ). z ∷ bytes) (eqb-true b 39 quote) ∙ ap (λ (z : List ℕ). 39 ∷ z) c.whole;
            value = c.value ∙ sym value;
            utf8 = subst (λ (z : List ℕ). IsUtf8 z) (sym value) some.2;
          })
      | inr other ↦ absurd (let no : None ≡ Some some.0 = sym (cond-false (b == 39) _ _ other) ∙ some.1 in cc)
    ]

pub text_length : (literal : List ℕ) → is_text_literal literal ≡ true → 2 ≤ length literal
text_length literal h = let p = text_parts literal h in omega (arith, ap length p.whole, length-append p.inside (39 ∷ []))

inside_slice : (inside : List ℕ) → slice_range (39 ∷ (inside ++ 39 ∷ [])) 1 (length (39 ∷ (inside ++ 39 ∷ [])) - 1) ≡ inside
inside_slice inside =
    let size : length (39 ∷ (inside ++ 39 ∷ [])) - 1 - 1 ≡ length inside = omega (arith, length-append inside (39 ∷ [])) in
    ap (λ (n : ℕ). take n (inside ++ 39 ∷ [])) size ∙ take_at inside (39 ∷ []) (length inside) refl

pub quoted_undoubled : (literal : List ℕ) → is_text_literal literal ≡ true → undoubled false (quoted_bytes literal) ≡ text_value literal
quoted_undoubled literal h =
    let p = text_parts literal h in
    ap (λ (z : List ℕ). undoubled false (quoted_bytes z)) p.whole ∙ (ap (λ (z : List ℕ). undoubled false z) (inside_slice p.inside) ∙ p.value)

-- ---- blob literals

digit_same : (c v : ℕ) → hex_digit_value c ≡ Some v → digit_value c ≡ v
digit_same c v h = grind (arith, nat_tests)

-- the pairs before a quote
pub pairs_front : (digits bytes : List ℕ) → SpellsBits digits bytes → paired_bytes (digits ++ 39 ∷ []) ≡ bytes
pairs_front [] [] h = refl
pairs_front (high ∷ low ∷ digits) (b ∷ bytes) (h, l, rest) =
    let first = digit_same high (b / 16) h in
    let second = digit_same low (b % 16) l in
    let same : b / 16 * 16 + b % 16 ≡ b = omega arith in
    let behind = pairs_front digits bytes rest in
    rw (first, second, same, behind) refl
pairs_front [] (b ∷ bytes) h = absurd h
pairs_front (d ∷ []) bytes h = absurd h
pairs_front (high ∷ low ∷ digits) [] h = absurd h

quote_last : (bytes : List ℕ) → is_hex_to_quote bytes ≡ true → (digits : List ℕ) × (bytes ≡ digits ++ 39 ∷ [])
quote_last [] h = absurd cc
quote_last (b ∷ []) h = ([], ap (λ (z : ℕ). z ∷ []) (eqb-true b 39 h))
quote_last (b ∷ c ∷ bytes) h =
    let rest = quote_last bytes (and_parts _ _ h).1 in
    (b ∷ c ∷ rest.0, ap (λ (z : List ℕ). b ∷ c ∷ z) rest.1)

-- the digits of a blob literal
pub record BlobParts (literal : List ℕ) : Type 0 where
  pub digits : List ℕ
  pub rest : drop 2 literal ≡ digits ++ 39 ∷ []
  pub size : length literal ≡ length digits + 3

blob_shape : (literal : List ℕ) → begins_blob literal ≡ true → (b c : ℕ) × (rest : List ℕ) × (literal ≡ b ∷ c ∷ rest)
blob_shape [] h = absurd cc
blob_shape (b ∷ []) h = absurd cc
blob_shape (b ∷ c ∷ rest) h = (b, c, rest, refl)

pub blob_parts : (literal : List ℕ) → is_blob_literal literal ≡ true → BlobParts literal
blob_parts literal h =
    let both = and_parts _ _ h in
    let (b, c, rest, shape) = blob_shape literal both.0 in
    let last = quote_last (drop 2 literal) both.1 in
    let front : drop 2 literal ≡ rest = ap (λ (z : List ℕ). drop 2 z) shape in
    record {
      digits = last.0;
      rest = last.1;
      size = omega (arith, ap length shape, ap length front, ap length last.1, length-append last.0 (39 ∷ []));
    }

pub blob_length : (literal : List ℕ) → is_blob_literal literal ≡ true → 3 ≤ length literal
blob_length literal h = let p = blob_parts literal h in omega (arith, p.size)

-- pairs of digits before a quote spell bytes
digit_given : (c : ℕ) → is_ascii_hexdigit c ≡ true → (v : ℕ) × (hex_digit_value c ≡ Some v)
digit_given c h = (digit_value c, grind (arith, nat_tests))

digits_spell : (digits : List ℕ) → is_hex_to_quote (digits ++ 39 ∷ []) ≡ true → (bytes : List ℕ) × SpellsBits digits bytes
digits_spell [] h = ([], tt)
digits_spell (d ∷ []) h = absurd (let no : false ≡ true = (and_parts (is_ascii_hexdigit d && is_ascii_hexdigit 39) false h).1 in cc)
digits_spell (high ∷ low ∷ digits) h =
    let pair = and_parts _ _ h in
    let both = and_parts _ _ pair.0 in
    let (x, first) = digit_given high both.0 in
    let (y, second) = digit_given low both.1 in
    let (bytes, behind) = digits_spell digits pair.1 in
    let few = digit_small low y second in
    let sixteens : x ≡ (x * 16 + y) / 16 = omega (arith, few) in
    let ones : y ≡ (x * 16 + y) % 16 = omega (arith, few) in
    ((x * 16 + y) ∷ bytes, (first ∙ ap (λ (v : ℕ). Some v) sixteens, second ∙ ap (λ (v : ℕ). Some v) ones, behind))

-- so that only want of memory can keep them from being read
pub blob_readable : (literal : List ℕ) (result : Result (List ℕ) LitFault) (fault : LitFault) → is_blob_literal literal ≡ true →
    IsExactAnswer Memory (λ bytes. SpellsBits (slice_range literal 2 (length literal - 1)) bytes) (λ e. IsBitsFault (slice_range literal 2 (length literal - 1)) e) result → (told : LitFault) → result ≡ Err fault → fault ≡ told → is_memory told ≡ false → ⊥
blob_readable literal result fault h exact told refused same other =
    let p = blob_parts literal h in
    let size : length literal - 1 - 2 ≡ length p.digits = omega (arith, p.size) in
    let digits : slice_range literal 2 (length literal - 1) ≡ p.digits =
    ap (λ (n : ℕ). take n (drop 2 literal)) size ∙ (ap (λ (z : List ℕ). take (length p.digits) z) p.rest ∙ take_at p.digits (39 ∷ []) (length p.digits) refl) in
    let (bytes, spelled) = digits_spell p.digits (ap is_hex_to_quote (sym p.rest) ∙ (and_parts _ _ h).1) in
    never_refused result fault told bytes (exact.only_value bytes (subst (λ (z : List ℕ). SpellsBits z bytes) (sym digits) spelled)) refused same other

pub blob_spelled : (literal bytes : List ℕ) → is_blob_literal literal ≡ true → SpellsBits (slice_range literal 2 (length literal - 1)) bytes → bytes ≡ blob_value literal
blob_spelled literal bytes h s =
    let p = blob_parts literal h in
    let size : length literal - 1 - 2 ≡ length p.digits = omega (arith, p.size) in
    let digits : slice_range literal 2 (length literal - 1) ≡ p.digits =
    ap (λ (n : ℕ). take n (drop 2 literal)) size ∙ (ap (λ (z : List ℕ). take (length p.digits) z) p.rest ∙ take_at p.digits (39 ∷ []) (length p.digits) refl) in
    sym (ap (λ (z : List ℕ). paired_bytes z) p.rest ∙ pairs_front p.digits bytes (subst (λ (z : List ℕ). SpellsBits z bytes) digits s))

-- ---- doubled quotes, part by part

-- the second quote of two is passed over
behind_quote : (bytes : List ℕ) → undoubled true bytes ≡ undoubled false (drop 1 bytes)
behind_quote [] = refl
behind_quote (b ∷ bytes) = refl

-- how many bytes stand before the first quote, by the first byte

quote_here : (b : ℕ) (bytes : List ℕ) → (b == 39) ≡ true → prefix_len is_plain (b ∷ bytes) ≡ 0
quote_here b bytes h = ap (λ (z : Bool). cond (not z) (1 + prefix_len is_plain bytes) 0) h

quote_later : (b : ℕ) (bytes : List ℕ) → (b == 39) ≡ false → prefix_len is_plain (b ∷ bytes) ≡ suc (prefix_len is_plain bytes)
quote_later b bytes h = ap (λ (z : Bool). cond (not z) (1 + prefix_len is_plain bytes) 0) h ∙ (let e : 1 + prefix_len is_plain bytes ≡ suc (prefix_len is_plain bytes) = omega arith in e)

-- what stands up to the first quote is taken over, and the quote behind it is passed over
quote_taken : (left : List ℕ) → prefix_len is_plain left < length left →
    take (prefix_len is_plain left + 1) left ++ undoubled false (drop (prefix_len is_plain left + 2) left) ≡ undoubled false left
quote_taken [] within = absurd (omega arith)
quote_taken (b ∷ bytes) within =
    elim (cases_Bool (b == 39)) [
      | inl quote ↦
          ap (λ (n : ℕ). take (n + 1) (b ∷ bytes) ++ undoubled false (drop (n + 2) (b ∷ bytes))) (quote_here b bytes quote)
          ∙ ap (λ (z : List ℕ). b ∷ z) (sym (behind_quote bytes))
          ∙ ap (λ (second : Bool). b ∷ undoubled second bytes) (sym quote)
      | inr other ↦
          (let n : ℕ = prefix_len is_plain bytes in
          let one : suc n + 1 ≡ suc (n + 1) = omega arith in
          let two : suc n + 2 ≡ suc (n + 2) = omega arith in
          ap (λ (m : ℕ). take (m + 1) (b ∷ bytes) ++ undoubled false (drop (m + 2) (b ∷ bytes))) (quote_later b bytes other)
          ∙ ap (λ (m : ℕ). take m (b ∷ bytes) ++ undoubled false (drop (suc n + 2) (b ∷ bytes))) one
          ∙ ap (λ (m : ℕ). (b ∷ take (n + 1) bytes) ++ undoubled false (drop m (b ∷ bytes))) two
          ∙ ap (λ (z : List ℕ). b ∷ z) (quote_taken bytes (omega (arith, quote_later b bytes other)))
          ∙ ap (λ (second : Bool). b ∷ undoubled second bytes) (sym other))
    ]

-- without a quote all is taken over
none_taken : (left : List ℕ) → prefix_len is_plain left ≡ length left → undoubled false left ≡ left
none_taken [] none = refl
none_taken (b ∷ bytes) none =
    elim (cases_Bool (b == 39)) [
      | inl quote ↦ absurd (omega (arith, quote_here b bytes quote))
      | inr other ↦ ap (λ (second : Bool). b ∷ undoubled second bytes) other ∙ ap (λ (z : List ℕ). b ∷ z) (none_taken bytes (omega (arith, quote_later b bytes other)))
    ]

drop_least : (n : ℕ) (left : List ℕ) → drop (min (length left) n) left ≡ drop n left
drop_least n left = elim (cases_lt n (length left)) [
  | inl less ↦ ap (λ (m : ℕ). drop m left) (let e : min (length left) n ≡ n = omega arith in e)
  | inr more ↦ ap (λ (m : ℕ). drop m left) (let e : min (length left) n ≡ length left = omega (arith, more) in e) ∙ drop_all (length left) left (omega arith) ∙ sym (drop_all n left (omega (arith, more)))
]

pub part_taken : (taken items left whole : List ℕ) (n m : ℕ) → n ≡ prefix_len is_plain left → n < length left → m ≡ min (length left) (n + 2) → items ≡ taken ++ take (n + 1) left →
    taken ++ undoubled false left ≡ whole → items ++ undoubled false (take (length left - m) (drop m left)) ≡ whole
part_taken taken items left whole n m is within count more so_far =
    ap (λ (z : List ℕ). z ++ undoubled false (take (length left - m) (drop m left))) more
    ∙ append_assoc taken (take (n + 1) left) _
    ∙ ap (λ (z : List ℕ). taken ++ (take (n + 1) left ++ undoubled false z)) (take_rest left m ∙ ap (λ (k : ℕ). drop k left) count ∙ drop_least (n + 2) left)
    ∙ ap (λ (m : ℕ). taken ++ (take (m + 1) left ++ undoubled false (drop (m + 2) left))) is
    ∙ ap (λ (z : List ℕ). taken ++ z) (quote_taken left (let w : prefix_len is_plain left < length left = subst (λ (m : ℕ). m < length left) is within in w))
    ∙ so_far

pub still_inside : (left whole : List ℕ) (n m : ℕ) → length left ≤ length whole → length (take n (drop m left)) ≤ length whole
still_inside left whole n m h = omega (arith, h, length-take n (drop m left), length-drop m left)

pub rest_taken : (taken items left whole : List ℕ) (n : ℕ) → n ≡ prefix_len is_plain left → n ≡ length left → items ≡ taken ++ left → taken ++ undoubled false left ≡ whole → items ≡ whole
rest_taken taken items left whole n is all more so_far = more ∙ ap (λ (z : List ℕ). taken ++ z) (sym (none_taken left (sym is ∙ all))) ∙ so_far

-- ---- int8 literals between quotes

-- without a quote the bytes are read as they are
plain_same : (bytes : List ℕ) → list_all (λ b. not (b == 39)) bytes ≡ true → undoubled false bytes ≡ bytes
plain_same [] h = refl
plain_same (b ∷ bytes) h =
    let both = and_parts (not (b == 39)) (list_all (λ b. not (b == 39)) bytes) h in
    ap (λ (second : Bool). b ∷ undoubled second bytes) (not-true (b == 39) both.0) ∙ ap (λ (z : List ℕ). b ∷ z) (plain_same bytes both.1)

-- and a quote stays one
still_plain : (bytes : List ℕ) → list_all (λ b. not (b == 39)) (undoubled false bytes) ≡ true → list_all (λ b. not (b == 39)) bytes ≡ true
still_plain [] h = refl
still_plain (b ∷ bytes) h =
    let both = and_parts (not (b == 39)) (list_all (λ b. not (b == 39)) (undoubled (b == 39) bytes)) h in
    and_from _ _ both.0 (still_plain bytes (subst (λ (second : Bool). list_all (λ b. not (b == 39)) (undoubled second bytes) ≡ true) (not-true (b == 39) both.0) both.1))

-- no int8 literal has a quote, so one may be read as it stands between the quotes of a text literal
pub undoubled_spells : (quoted vector : List ℕ) → SpellsInt8 quoted vector → SpellsInt8 (undoubled false quoted) vector
undoubled_spells quoted vector s = subst (λ (z : List ℕ). SpellsInt8 z vector) (sym (plain_same quoted (no_quote quoted vector s))) s

pub quoted_spells : (quoted vector : List ℕ) → SpellsInt8 (undoubled false quoted) vector → SpellsInt8 quoted vector
quoted_spells quoted vector s = subst (λ (z : List ℕ). SpellsInt8 z vector) (plain_same quoted (still_plain quoted (no_quote (undoubled false quoted) vector s))) s
