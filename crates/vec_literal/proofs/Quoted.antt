-- Where the longest text literal ends, part by part.
use Rattle.std.proofs.Common.{◌≡◌, ℕ, suc, ◌+◌, ◌-◌, ◌<◌, ◌≤◌, true, false, inl, inr, List, [], ◌∷◌, ◌++◌, length, take, drop, get_or, Option, Some, None, refl, sym, ◌∙◌, ap, subst, arith, length-drop, eqb-true}
use Rattle.std.proofs.lemmas.Bool.{and_parts, both_ways, not-false, cases_lt}
use Rattle.std.proofs.lemmas.List.{drop_more, drop-drop, drop-take, take-take, take-append-drop, get_or-drop}
use Rattle.std.proofs.lemmas.List.Folds.{list_all-append}
use Rattle.std.proofs.lemmas.List.Sums.{prefix_len_stops}
use Rattle.std.specs.List.{list_all, prefix_len, slice_range}
use Rattle.std.specs.Str.{IsUtf8}
use Rattle.vec_literal.specs.inner.Stretches.{is_plain, is_quoted_text, run_end, EndsAt, EndsNowhere, IsPart, LongestEnd}
use Rattle.vec_literal.proofs.Runs.{run_to}
use Rattle.vec_literal.proofs.Texts.{part_endless, part_ends, part_closed, part_goes_on, part_utf8}

-- a front in two
take_add : (i k : ℕ) (xs : List ℕ) → take (i + k) xs ≡ take i xs ++ take k (drop i xs)
take_add i k xs =
    let within : i ≤ i + k = omega arith in
    sym (take-append-drop i (take (i + k) xs)) ∙
    (ap (λ (z : List ℕ). z ++ drop i (take (i + k) xs)) (take-take i (i + k) xs within) ∙ ap (λ (z : List ℕ). take i xs ++ z) (drop-take i k xs))

-- a stretch in two
pub slice_split : (text : List ℕ) (a b m : ℕ) → a ≤ b → b ≤ m → slice_range text a m ≡ slice_range text a b ++ slice_range text b m
slice_split text a b m h k =
    let size : m - a ≡ b - a + (m - b) = omega arith in
    let place : a + (b - a) ≡ b = omega arith in
    ap (λ (z : ℕ). take z (drop a text)) size ∙
    (take_add (b - a) (m - b) (drop a text) ∙
    ap (λ (z : List ℕ). slice_range text a b ++ take (m - b) z) (drop-drop (b - a) a text ∙ ap (λ (z : ℕ). drop z text) place))

-- a stretch by its first byte
slice_first : (text : List ℕ) (a m : ℕ) → a < m → m ≤ length text → slice_range text a m ≡ get_or text a 0 ∷ slice_range text (a + 1) m
slice_first text a m h l =
    let size : m - a ≡ suc (m - (a + 1)) = omega arith in
    ap (λ (z : ℕ). take z (drop a text)) size ∙ ap (λ (z : List ℕ). take (suc (m - (a + 1))) z) (drop_more text a 0 (omega arith))

-- a stretch of no bytes
slice_none : (text : List ℕ) (a : ℕ) → slice_range text a a ≡ []
slice_none text a = ap (λ (z : ℕ). take z (drop a text)) (let e : a - a ≡ 0 = omega arith in e)

-- nothing is quoted in no bytes
pub none_quoted : (text : List ℕ) (a : ℕ) → is_quoted_text (slice_range text a a) ≡ true → ⊥
none_quoted text a h = both_ways (is_quoted_text (slice_range text a a)) (ap (λ (z : List ℕ). is_quoted_text z) (slice_none text a)) h

-- no text ends where only bytes without a quote stand
within_part : (text : List ℕ) (from quote m : ℕ) → list_all is_plain (slice_range text from quote) ≡ true → from ≤ m → m ≤ quote → is_quoted_text (slice_range text from m) ≡ true → ⊥
within_part text from quote m plain h k e =
    let both : list_all is_plain (slice_range text from m ++ slice_range text m quote) ≡ true = subst (λ (z : List ℕ). list_all is_plain z ≡ true) (slice_split text from m quote h k) plain in
    let p = and_parts _ _ (sym (list_all-append is_plain (slice_range text from m) (slice_range text m quote)) ∙ both) in
    part_endless (slice_range text from m) p.0 e

-- a stretch that goes over the quote
over_quote : (text : List ℕ) (from quote m : ℕ) → from ≤ quote → get_or text quote 0 ≡ 39 → quote < m → m ≤ length text →
    slice_range text from m ≡ slice_range text from quote ++ 39 ∷ slice_range text (quote + 1) m
over_quote text from quote m h q k l =
    slice_split text from quote m h (omega arith) ∙
    ap (λ (z : List ℕ). slice_range text from quote ++ z) (slice_first text quote m k l ∙ ap (λ (z : ℕ). z ∷ slice_range text (quote + 1) m) q)

-- the first quote from a place on
quote_stands : (text : List ℕ) (from quote : ℕ) → quote ≡ run_end is_plain text from → quote < length text → get_or text quote 0 ≡ 39
quote_stands text from quote e l =
    let rest : List ℕ = drop from text in
    let n : ℕ = prefix_len is_plain rest in
    let stop : is_plain (get_or rest n 0) ≡ false = prefix_len_stops is_plain rest 0 (omega (arith, e, length-drop from text)) in
    ap (λ (z : ℕ). get_or text z 0) e ∙ (sym (get_or-drop from text n 0) ∙ eqb-true (get_or rest n 0) 39 (not-false _ stop))

-- UTF-8 stands before it
pub part_stands : (text : List ℕ) (from quote : ℕ) → from ≤ length text → quote ≡ run_end is_plain text from → quote < length text → IsUtf8 (slice_range text from quote) → IsPart text from quote
part_stands text from quote l e k u =
    let ends : EndsAt (list_all is_plain) text from (length text) quote = run_to is_plain text from quote l e in
    record { rising = ends.rising; inside = k; plain = ends.passed; utf8 = u; quoted = quote_stands text from quote e k }

-- no text ends anywhere behind the place if no quote follows, or what stands before the first one is not UTF-8
pub part_fails : (text : List ℕ) (from quote : ℕ) → from ≤ length text → quote ≡ run_end is_plain text from → (quote < length text → IsUtf8 (slice_range text from quote) → ⊥) →
    EndsNowhere is_quoted_text text from (length text)
part_fails text from quote l e unfit =
    let ends : EndsAt (list_all is_plain) text from (length text) quote = run_to is_plain text from quote l e in
    record {
      none = λ m over within h. elim (cases_lt quote m) [
        | inl k ↦ unfit (omega arith)
            (part_utf8 (slice_range text from quote) (slice_range text (quote + 1) m) ends.passed
            (subst (λ (z : List ℕ). is_quoted_text z ≡ true) (over_quote text from quote m ends.rising (quote_stands text from quote e (omega arith)) k within) h))
        | inr k ↦ within_part text from quote m ends.passed over k h
      ];
    }

-- the quote behind a part ends a text
part_passed : (text : List ℕ) (from quote : ℕ) → IsPart text from quote → is_quoted_text (slice_range text from (quote + 1)) ≡ true
part_passed text from quote p =
    let last : slice_range text from (quote + 1) ≡ slice_range text from quote ++ 39 ∷ [] =
    over_quote text from quote (quote + 1) p.rising p.quoted (omega arith) (omega (arith, p.inside)) ∙ ap (λ (z : List ℕ). slice_range text from quote ++ 39 ∷ z) (slice_none text (quote + 1)) in
    ap (λ (z : List ℕ). is_quoted_text z) last ∙ part_ends (slice_range text from quote) p.plain p.utf8

-- no text goes on behind a quote that is not doubled
part_last : (text : List ℕ) (from quote m : ℕ) → IsPart text from quote → (get_or text (quote + 1) 0 ≡ 39 → ⊥) → quote + 1 < m → m ≤ length text → is_quoted_text (slice_range text from m) ≡ true → ⊥
part_last text from quote m p other k l h =
    let whole : slice_range text from m ≡ slice_range text from quote ++ 39 ∷ get_or text (quote + 1) 0 ∷ slice_range text (quote + 1 + 1) m =
    over_quote text from quote m p.rising p.quoted (omega arith) l ∙ ap (λ (z : List ℕ). slice_range text from quote ++ 39 ∷ z) (slice_first text (quote + 1) m k l) in
    part_closed (slice_range text from quote) (get_or text (quote + 1) 0) (slice_range text (quote + 1 + 1) m) p.plain other (subst (λ (z : List ℕ). is_quoted_text z ≡ true) whole h)

-- behind a doubled quote the text goes on as if it began there
part_over : (text : List ℕ) (from quote m : ℕ) → IsPart text from quote → get_or text (quote + 1) 0 ≡ 39 → quote + 2 ≤ m → m ≤ length text →
    is_quoted_text (slice_range text from m) ≡ is_quoted_text (slice_range text (quote + 2) m)
part_over text from quote m p double k l =
    let whole : slice_range text from m ≡ slice_range text from quote ++ 39 ∷ 39 ∷ slice_range text (quote + 1 + 1) m =
    over_quote text from quote m p.rising p.quoted (omega arith) l ∙
    ap (λ (z : List ℕ). slice_range text from quote ++ 39 ∷ z) (slice_first text (quote + 1) m (omega arith) l ∙ ap (λ (z : ℕ). z ∷ slice_range text (quote + 1 + 1) m) double) in
    let next : quote + 1 + 1 ≡ quote + 2 = omega arith in
    ap (λ (z : List ℕ). is_quoted_text z) whole ∙
    (part_goes_on (slice_range text from quote) (slice_range text (quote + 1 + 1) m) p.plain p.utf8 ∙ ap (λ (z : ℕ). is_quoted_text (slice_range text z m)) next)

-- What is known when the parts from `from` up to `start` are read: behind `start` a text ends where one does that begins
-- at `start`, and of the ends up to `start` the last one is `end`.
pub record IsRead (text : List ℕ) (from start : ℕ) (end : Option ℕ) : Type 0 where
  pub rising : from ≤ start
  pub inside : start ≤ length text
  pub goes_on : (m : ℕ) → start ≤ m → m ≤ length text → is_quoted_text (slice_range text from m) ≡ is_quoted_text (slice_range text start m)
  pub so_far : LongestEnd is_quoted_text text from start end

-- before the first part
pub read_none : (text : List ℕ) (from : ℕ) → from ≤ length text → IsRead text from from None
read_none text from l = record {
  rising = omega arith;
  inside = l;
  goes_on = λ m h k. refl;
  so_far = record { none = λ m h k e. none_quoted text from (subst (λ (z : ℕ). is_quoted_text (slice_range text from z) ≡ true) (let same : m ≡ from = omega arith in same) e) };
}

-- one more part, and a doubled quote behind it
pub read_more : (text : List ℕ) (from start quote : ℕ) (end : Option ℕ) → IsRead text from start end → IsPart text start quote → quote + 1 < length text → get_or text (quote + 1) 0 ≡ 39 →
    IsRead text from (quote + 2) (Some (quote + 1))
read_more text from start quote end r p l double =
    let goes_on : (m : ℕ) → quote + 2 ≤ m → m ≤ length text → is_quoted_text (slice_range text from m) ≡ is_quoted_text (slice_range text (quote + 2) m) =
    λ m h k. r.goes_on m (omega (arith, p.rising)) k ∙ part_over text start quote m p double h k in
    record {
      rising = omega (arith, r.rising, p.rising);
      inside = omega arith;
      goes_on = goes_on;
      so_far = record {
        rising = omega (arith, r.rising, p.rising);
        inside = omega arith;
        passed = r.goes_on (quote + 1) (omega (arith, p.rising)) (omega arith) ∙ part_passed text start quote p;
        longest = λ m h k e.
            (let same : m ≡ quote + 2 = omega arith in
            none_quoted text (quote + 2) (sym (goes_on (quote + 2) (omega arith) (omega arith)) ∙ subst (λ (z : ℕ). is_quoted_text (slice_range text from z) ≡ true) same e));
      };
    }

-- one more part, and no quote behind its quote
pub read_last : (text : List ℕ) (from start quote : ℕ) (end : Option ℕ) → IsRead text from start end → IsPart text start quote → (quote + 1 < length text → get_or text (quote + 1) 0 ≡ 39 → ⊥) →
    EndsAt is_quoted_text text from (length text) (quote + 1)
read_last text from start quote end r p other = record {
  rising = omega (arith, r.rising, p.rising);
  inside = omega (arith, p.inside);
  passed = r.goes_on (quote + 1) (omega (arith, p.rising)) (omega (arith, p.inside)) ∙ part_passed text start quote p;
  longest = λ m h k e. part_last text start quote m p (other (omega arith)) h k (sym (r.goes_on m (omega (arith, p.rising)) k) ∙ e);
}

-- no more part
pub read_ended : (text : List ℕ) (from start : ℕ) (end : Option ℕ) → IsRead text from start end → EndsNowhere is_quoted_text text start (length text) → LongestEnd is_quoted_text text from (length text) end
read_ended text from start None r nowhere = record {
  none = λ m h k e. elim (cases_lt start m) [
    | inl over ↦ nowhere.none m (omega arith) k (sym (r.goes_on m (omega arith) k) ∙ e)
    | inr under ↦ r.so_far.none m h under e
  ];
}
read_ended text from start (Some upto) r nowhere = record {
  rising = r.so_far.rising;
  inside = omega (arith, r.so_far.inside, r.inside);
  passed = r.so_far.passed;
  longest = λ m h k e. elim (cases_lt start m) [
    | inl over ↦ nowhere.none m (omega arith) k (sym (r.goes_on m (omega arith) k) ∙ e)
    | inr under ↦ r.so_far.longest m h under e
  ];
}
