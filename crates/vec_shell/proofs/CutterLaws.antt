-- Further bytes of the piece, for what the cutter keeps.
use Rattle.std.proofs.Common.{◌≡◌, ◌≢◌, ℕ, ◌+◌, ◌-◌, ◌<◌, ◌≤◌, Bool, true, false, ◌==◌, ◌&&◌, ◌||◌, not, List, [], ◌∷◌, ◌++◌, length, take, drop, get_or, min, Option, Some, None, if◌then◌else◌, refl, ap, sym, ◌∙◌, subst, arith, inl, inr, length-append}
use Rattle.std.specs.Prelude.{unwrap_or}
use Rattle.std.specs.List.{prefix_len}
use Rattle.vec_literal.specs.Tokens.{is_white}
use Rattle.std.proofs.lemmas.Bool.{cases_lt, cond-true, cond-false, eqb-true, eqb-false, ne_eqb}
use Rattle.std.proofs.lemmas.List.{take_all, take_rest, take-append-le, length-take, get_or-take, append-nil}
use Rattle.std.proofs.Math.Seq.{take-append-add}
use Rattle.memchr.specs.Find.{IsFirstByte, is_byte, is_byte2}
use Rattle.vec_shell.specs.declared.cutter.Cutter.{Cutter}
use Rattle.vec_shell.specs.declared.cutter.TheConstants.{MOST_KEPT}
use Rattle.vec_shell.specs.Pieces.{is_quoted, trim}
use Rattle.vec_shell.specs.inner.Cutting.{KeepsText, CutterHolds, wanted_of, may_end, GoesOn}
use Rattle.vec_shell.proofs.PieceLaws.{grown_by, trim-append, trim_is, runs_on, is_quoted-push}

-- ---- lists that are empty or not

pub empty : (t : List ℕ) → length t ≡ 0 → t ≡ []
empty [] h = refl
empty (x ∷ xs) h = absurd (omega arith)

has_some : (t : List ℕ) → t ≢ [] → 0 < length t
has_some [] ne = absurd (ne refl)
has_some (x ∷ xs) ne = omega arith

from_some : (t : List ℕ) → 0 < length t → t ≢ []
from_some [] h = absurd (omega arith)
from_some (x ∷ xs) h = λ e. cc

grown_some : (t q : List ℕ) → 0 < length t → grown_by t q ≡ t ++ q
grown_some [] q h = absurd (omega arith)
grown_some (x ∷ xs) q h = refl

grown_longer : (t q : List ℕ) → length t ≤ length (grown_by t q)
grown_longer [] q = omega arith
grown_longer (x ∷ xs) q = omega (arith, length-append (x ∷ xs) q)

-- ---- the text behind further bytes

take_past : (n : ℕ) (xs ys : List ℕ) → length xs ≤ n → take n (xs ++ ys) ≡ xs ++ take (n - length xs) ys
take_past n xs ys within =
    let count : n ≡ length xs + (n - length xs) = omega arith in
    ap (λ (k : ℕ). take k (xs ++ ys)) count ∙ take-append-add xs ys (n - length xs)

take_both : (n : ℕ) (xs ys : List ℕ) → take n (xs ++ ys) ≡ take n xs ++ take (n - length (take n xs)) ys
take_both n xs ys = elim (cases_lt n (length xs)) [
  | inl less ↦
      (let none : n - length (take n xs) ≡ 0 = omega (arith, length-take n xs) in
      take-append-le n xs ys (omega arith) ∙ sym (ap (λ (k : ℕ). take n xs ++ take k ys) none ∙ append-nil (take n xs)))
  | inr more ↦
      (let whole : take n xs ≡ xs = take_all n xs (omega (arith, more)) in
      take_past n xs ys (omega (arith, more)) ∙ sym (ap (λ (zs : List ℕ). zs ++ take (n - length zs) ys) whole))
]

text_grown : (n : ℕ) (t q text : List ℕ) → 0 < n → text ≡ take n t → take n (grown_by t q) ≡ text ++ take (n - length text) (if length text == 0 then trim q else q)
text_grown n [] q text some same =
    let none : text ≡ [] = same ∙ empty (take n []) (omega (arith, length-take {A = ℕ} n [])) in
    ap (λ (k : ℕ). take k (trim q)) (let e : n ≡ n - 0 = omega arith in e)
    ∙ sym (ap (λ (u : List ℕ). u ++ take (n - length u) (if length u == 0 then trim q else q)) none)
text_grown n (x ∷ xs) q text some same =
    let size : (length (take n (x ∷ xs)) == 0) ≡ false = ne_eqb (length (take n (x ∷ xs))) 0 (λ e. omega (arith, length-take n (x ∷ xs))) in
    take_both n (x ∷ xs) q
    ∙ sym (ap (λ (u : List ℕ). u ++ take (n - length u) (if length u == 0 then trim q else q)) same
    ∙ ap (λ (z : List ℕ). take n (x ∷ xs) ++ take (n - length (take n (x ∷ xs))) z) (cond-false (length (take n (x ∷ xs)) == 0) (trim q) q size))

-- what is kept of a piece with further bytes
kept_text : (p q text : List ℕ) → text ≡ take MOST_KEPT (trim p) → take MOST_KEPT (trim (p ++ q)) ≡ text ++ wanted_of text q
kept_text p q text same = ap (take MOST_KEPT) (trim-append p q) ∙ text_grown MOST_KEPT (trim p) q text (omega arith) same

still_text : (p q : List ℕ) → trim p ≢ [] → trim (p ++ q) ≢ []
still_text p q ne = subst (λ (t : List ℕ). t ≢ []) (sym (trim-append p q)) (from_some (grown_by (trim p) q) (let some = has_some (trim p) ne in omega (arith, some, grown_longer (trim p) q)))

-- nothing more is wanted
pub keeps_same : (c : Cutter) (p q : List ℕ) → wanted_of c.text q ≡ [] → KeepsText c p → KeepsText c (p ++ q)
keeps_same c p q none k = record {
  text = λ here. sym (kept_text p q c.text (k.text here) ∙ ap (λ (z : List ℕ). c.text ++ z) none ∙ append-nil c.text);
  lost = λ gone. still_text p q (k.lost gone);
}

-- the text was lost before
pub keeps_lost : (c : Cutter) (p q : List ℕ) → c.lost ≡ true → KeepsText c p → KeepsText c (p ++ q)
keeps_lost c p q gone k = record { text = λ here. absurd (let e : true ≡ false = sym gone ∙ here in cc); lost = λ _. still_text p q (k.lost gone) }

-- what is wanted is kept
pub keeps_more : (c : Cutter) (p q text : List ℕ) → c.lost ≡ false → text ≡ c.text ++ wanted_of c.text q → KeepsText c p → KeepsText (record c { text = text }) (p ++ q)
keeps_more c p q text here more k = record {
  text = λ _. more ∙ sym (kept_text p q c.text (k.text here));
  lost = λ gone. absurd (let e : true ≡ false = sym gone ∙ here in cc);
}

-- there is no memory for what is wanted
pub keeps_none : (c : Cutter) (p q text : List ℕ) → c.lost ≡ false → 0 < length (wanted_of c.text q) → KeepsText c p → KeepsText (record c { text = text; lost = true }) (p ++ q)
keeps_none c p q text here some k = record {
  text = λ there. absurd (let e : true ≡ false = there in cc);
  lost = λ _ none.
      (let nothing : length (take MOST_KEPT (trim (p ++ q))) ≡ 0 = ap (λ (t : List ℕ). length (take MOST_KEPT t)) none in
      omega (arith, nothing, some, ap length (kept_text p q c.text (k.text here)), length-append c.text (wanted_of c.text q)));
}

-- ---- the whole piece

pub run_held : (c d : Cutter) (p q : List ℕ) → d.quoted ≡ c.quoted → is_quoted (p ++ q) ≡ is_quoted p → KeepsText d (p ++ q) → CutterHolds c p → CutterHolds d (p ++ q)
run_held c d p q same quotes kept h = record { quoted = same ∙ h.quoted ∙ sym quotes; kept = kept }

pub quote_held : (c d : Cutter) (p : List ℕ) (b : ℕ) → d.quoted ≡ c.quoted → (b == 39) ≡ true → KeepsText d (p ++ b ∷ []) → CutterHolds c p → CutterHolds (record d { quoted = not d.quoted }) (p ++ b ∷ [])
quote_held c d p b same quote kept h = record {
  quoted = ap not (same ∙ h.quoted) ∙ sym (is_quoted-push p b ∙ cond-true (b == 39) (not (is_quoted p)) (is_quoted p) quote);
  kept = record { text = kept.text; lost = kept.lost };
}

pub other_held : (c d : Cutter) (p : List ℕ) (b : ℕ) → d.quoted ≡ c.quoted → (b == 39) ≡ false → KeepsText d (p ++ b ∷ []) → CutterHolds c p → CutterHolds d (p ++ b ∷ [])
other_held c d p b same other kept h =
    record { quoted = same ∙ h.quoted ∙ sym (is_quoted-push p b ∙ cond-false (b == 39) (not (is_quoted p)) (is_quoted p) other); kept = kept }

-- a piece is no text where nothing is kept of it
pub blank : (c : Cutter) (p : List ℕ) → CutterHolds c p → c.lost ≡ false → length c.text ≡ 0 → trim p ≡ []
blank c p h here none =
    empty (trim p) (let l : length (take MOST_KEPT (trim p)) ≡ 0 = sym (ap length (h.kept.text here)) ∙ none in omega (arith, length-take MOST_KEPT (trim p)))

pub not_blank : (c : Cutter) (p : List ℕ) → CutterHolds c p → c.lost ≡ false → length c.text ≢ 0 → trim p ≢ []
not_blank c p h here some e = some (ap length (h.kept.text here) ∙ ap (λ t. length (take MOST_KEPT t)) e)

-- ---- the next byte that may end the piece, by a search

open_test : (quote end : Bool) → ((quote || end) ≡ true → ⊥) → (quote || (end && not false)) ≡ false
open_test true end other = absurd (other refl)
open_test false true other = absurd (other refl)
open_test false false other = refl

quoted_test : (quote end : Bool) → (quote ≡ true → ⊥) → (quote || (end && not true)) ≡ false
quoted_test true end other = absurd (other refl)
quoted_test false true other = refl
quoted_test false false other = refl

-- no byte before the first that passes the test passes it
none_before : (test : ℕ → Bool) (bytes : List ℕ) (found : Option ℕ) (n k : ℕ) → IsFirstByte test bytes found → n ≡ unwrap_or found (length bytes) → k < n → test (get_or bytes k 0) ≡ true → ⊥
none_before test bytes (Some at) n k h e less = h.0.before k (omega arith) (omega (arith, e, less))
none_before test bytes None n k h e less = h k (omega arith) (omega (arith, e, less))

pub found_inside : (test : ℕ → Bool) (bytes : List ℕ) (found : Option ℕ) (n : ℕ) → IsFirstByte test bytes found → n ≡ unwrap_or found (length bytes) → n ≤ length bytes
found_inside test bytes (Some at) n h e = omega (arith, e, h.0.high)
found_inside test bytes None n h e = omega (arith, e)

pub quoted_run : (quoted : Bool) (bytes : List ℕ) (found : Option ℕ) (n k : ℕ) → quoted ≡ true → IsFirstByte (is_byte 39) bytes found → n ≡ unwrap_or found (length bytes) → k < n → may_end quoted (get_or bytes k 0) ≡ false
quoted_run quoted bytes found n k q h e less =
    ap (λ (z : Bool). may_end z (get_or bytes k 0)) q ∙ quoted_test (get_or bytes k 0 == 39) (get_or bytes k 0 == 59) (none_before (is_byte 39) bytes found n k h e less)

pub open_run : (quoted : Bool) (bytes : List ℕ) (found : Option ℕ) (n k : ℕ) → quoted ≡ false → IsFirstByte (is_byte2 39 59) bytes found → n ≡ unwrap_or found (length bytes) → k < n → may_end quoted (get_or bytes k 0) ≡ false
open_run quoted bytes found n k q h e less =
    ap (λ (z : Bool). may_end z (get_or bytes k 0)) q ∙ open_test (get_or bytes k 0 == 39) (get_or bytes k 0 == 59) (none_before (is_byte2 39 59) bytes found n k h e less)

-- so the piece goes on by the bytes before it
pub run_goes_on : (c : Cutter) (p bytes : List ℕ) (n : ℕ) → n ≤ length bytes → ((k : ℕ) → k < n → may_end c.quoted (get_or bytes k 0) ≡ false) → CutterHolds c p →
    GoesOn p (take n bytes) × (is_quoted (p ++ take n bytes) ≡ is_quoted p)
run_goes_on c p bytes n inside plain h =
    runs_on p (take n bytes)
    (λ k within.
    (let less : k < n = omega (arith, within, length-take n bytes) in
    ap (λ (b : ℕ). may_end (is_quoted p) b) (get_or-take n bytes k 0 less) ∙ ap (λ (q : Bool). may_end q (get_or bytes k 0)) (sym h.quoted) ∙ plain k less))

-- ---- what is wanted

-- a part that has room for all is the whole
pub first_part : (n : ℕ) (bytes : List ℕ) → take (min n (length bytes)) bytes ≡ take n bytes
first_part n bytes = elim (cases_lt n (length bytes)) [
  | inl less ↦ ap (λ (k : ℕ). take k bytes) (let e : min n (length bytes) ≡ n = omega arith in e)
  | inr more ↦ ap (λ (k : ℕ). take k bytes) (let e : min n (length bytes) ≡ length bytes = omega (arith, more) in e) ∙ take_all (length bytes) bytes (omega arith) ∙ sym (take_all n bytes (omega (arith, more)))
]

pub wanted_first : (text bytes wanted : List ℕ) (white room : ℕ) (none : Bool) → none ≡ (length text == 0) → none ≡ true → white ≡ prefix_len is_white bytes → room ≡ MOST_KEPT - length text →
    wanted ≡ take room (take (length bytes - white) (drop white bytes)) → wanted ≡ wanted_of text bytes
wanted_first text bytes wanted white room none same empty count left is =
    is ∙ ap (take room) (take_rest bytes white ∙ ap (λ (n : ℕ). drop n bytes) count ∙ trim_is bytes) ∙ ap (λ (n : ℕ). take n (trim bytes)) left
    ∙ ap (take (MOST_KEPT - length text)) (sym (cond-true (length text == 0) (trim bytes) bytes (sym same ∙ empty)))

pub wanted_later : (text bytes wanted : List ℕ) (room : ℕ) (none : Bool) → none ≡ (length text == 0) → none ≡ false → room ≡ MOST_KEPT - length text → wanted ≡ take room bytes → wanted ≡ wanted_of text bytes
wanted_later text bytes wanted room none same some left is =
    is ∙ ap (λ (n : ℕ). take n bytes) left ∙ ap (take (MOST_KEPT - length text)) (sym (cond-false (length text == 0) (trim bytes) bytes (sym same ∙ some)))

pub wanted_none : (text same bytes wanted : List ℕ) (none : Bool) → same ≡ text → wanted ≡ wanted_of same bytes → none ≡ (length wanted == 0) → none ≡ true → wanted_of text bytes ≡ []
wanted_none text same bytes wanted none e is test empty_is = empty (wanted_of text bytes) (ap length (sym (is ∙ ap (λ (t : List ℕ). wanted_of t bytes) e)) ∙ eqb-true (length wanted) 0 (sym test ∙ empty_is))

pub wanted_some : (text same bytes wanted : List ℕ) (none : Bool) → same ≡ text → wanted ≡ wanted_of same bytes → none ≡ (length wanted == 0) → none ≡ false → 0 < length (wanted_of text bytes)
wanted_some text same bytes wanted none e is test other_is =
    let other : length wanted ≡ 0 → ⊥ = eqb-false (length wanted) 0 (sym test ∙ other_is) in
    let size : length wanted ≡ length (wanted_of text bytes) = ap length (is ∙ ap (λ (t : List ℕ). wanted_of t bytes) e) in
    omega (arith, size, other)
