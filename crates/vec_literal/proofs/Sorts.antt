-- The first bytes tell the sort of a token, and the test that the bytes behind them pass tells where it ends.
use Rattle.std.proofs.Common.{◌≡◌, ℕ, zero, suc, ◌+◌, ◌-◌, ◌<◌, ◌≤◌, Bool, true, false, not, ◌||◌, ◌&&◌, ◌⊎◌, inl, inr, List, [], ◌∷◌, length, take, drop, get_or, Option, Some, None, ◌==◌, refl, sym, ◌∙◌, ap, subst, arith, length-drop, eqb-true}
use Rattle.std.proofs.lemmas.Bool.{and_parts, both_ways, or_cases, not-true, cond-true, cond-false, cond_both, true_from_ne_false}
use Rattle.std.proofs.lemmas.Bool.Decides.{nat_tests}
use Rattle.std.proofs.lemmas.List.{drop_more, drop-drop, get_or-drop}
use Rattle.std.specs.Char.{is_ascii_digit}
use Rattle.std.specs.List.{list_all}
use Rattle.std.specs.Option.{MatchOption, option_map_or}
use Rattle.std.specs.Prelude.{if◌then◌else◌}
use Rattle.std.specs.Str.{is_utf8}
use Rattle.vec_literal.specs.declared.token.TokenSort.{TokenSort}
use Rattle.vec_literal.specs.declared.token.TokenSort.TheVariants as sorts
use Rattle.vec_literal.specs.Tokens.{is_letter, is_word_byte, is_hex_to_quote, begins_blob, is_mark_text, is_spelling, is_blob_sort, spells_front, NoneIn}
use Rattle.vec_literal.specs.inner.Stretches.{sort_at, is_single, is_pair, is_quoted_text, EndsAt, EndsNowhere, IsTokenAt}
use Rattle.vec_literal.proofs.Marks.{MarkSize, mark_size}

-- what the first bytes of a token of the sort are
abbrev pub Begins : TokenSort → ℕ → List ℕ → Type 0
Begins sorts.Word b bs = (begins_blob (b ∷ bs) ≡ false) × (is_letter b ≡ true)
Begins sorts.Number b bs = (begins_blob (b ∷ bs) ≡ false) × (is_ascii_digit b ≡ true)
Begins sorts.TextLit b bs = (begins_blob (b ∷ bs) ≡ false) × ((b == 39) ≡ true)
Begins sorts.BlobLit b bs = begins_blob (b ∷ bs) ≡ true
Begins sorts.Param b bs = (begins_blob (b ∷ bs) ≡ false) × ((b == 63) ≡ true)
Begins sorts.Mark b bs = begins_blob (b ∷ bs) ≡ false

-- so begin the bytes of the sort that was told
begins_as : (b : ℕ) (bs : List ℕ) → Begins (sort_at (b ∷ bs)) b bs
begins_as b bs =
    let P : TokenSort → Type 0 = λ s. Begins s b bs in
    cond_both (begins_blob (b ∷ bs)) _ _ P (λ e. e)
    (λ blob. cond_both (is_letter b) _ _ P (λ e. (blob, e))
    (λ letter. cond_both (is_ascii_digit b) _ _ P (λ e. (blob, e))
    (λ digit. cond_both (b == 39) _ _ P (λ e. (blob, e))
    (λ quote. cond_both (b == 63) _ _ P (λ e. (blob, e)) (λ param. blob)))))

-- the sort where no blob begins
abbrev plain_sort : ℕ → TokenSort
plain_sort b =
    if is_letter b then sorts.Word
    else if is_ascii_digit b then sorts.Number
    else if b == 39 then sorts.TextLit
    else if b == 63 then sorts.Param
    else sorts.Mark

-- a digit, a quote, `?` and the first byte of a mark give their sorts
plain_digit : (b : ℕ) → is_ascii_digit b ≡ true → is_letter b ≡ false
plain_digit b h = grind (arith, nat_tests)

plain_quote : (b : ℕ) → b ≡ 39 → plain_sort b ≡ sorts.TextLit
plain_quote b h = ap (λ (z : ℕ). plain_sort z) h

plain_param : (b : ℕ) → b ≡ 63 → plain_sort b ≡ sorts.Param
plain_param b h = ap (λ (z : ℕ). plain_sort z) h

-- the byte begins no other sort than a mark
abbrev only_mark : ℕ → Bool
only_mark b = (not (is_letter b) && not (is_ascii_digit b)) && (not (b == 39) && not (b == 63))

single_mark : (b : ℕ) → is_single b ≡ true → only_mark b ≡ true
single_mark b h = grind (arith, nat_tests)

pair_mark : (b c : ℕ) → is_pair b c ≡ true → only_mark b ≡ true
pair_mark b c h = grind (arith, nat_tests)

plain_mark : (b : ℕ) → only_mark b ≡ true → plain_sort b ≡ sorts.Mark
plain_mark b h =
    let p = and_parts (not (is_letter b) && not (is_ascii_digit b)) (not (b == 39) && not (b == 63)) h in
    let q = and_parts (not (is_letter b)) (not (is_ascii_digit b)) p.0 in
    let r = and_parts (not (b == 39)) (not (b == 63)) p.1 in
    cond-false (is_letter b) _ _ (not-true _ q.0) ∙
    (cond-false (is_ascii_digit b) _ _ (not-true _ q.1) ∙ (cond-false (b == 39) _ _ (not-true _ r.0) ∙ cond-false (b == 63) _ _ (not-true _ r.1)))

-- where no blob begins, the first byte tells the sort
sort_plain : (b : ℕ) (bs : List ℕ) → begins_blob (b ∷ bs) ≡ false → sort_at (b ∷ bs) ≡ plain_sort b
sort_plain b bs h = cond-false (begins_blob (b ∷ bs)) _ _ h

-- no sort is spelled by no bytes
nothing_spelled : (s : TokenSort) → is_spelling s [] ≡ true → ⊥
unfolding is_spelling
nothing_spelled sorts.Word h = cc
nothing_spelled sorts.Number h = cc
nothing_spelled sorts.TextLit h = cc
nothing_spelled sorts.BlobLit h = cc
nothing_spelled sorts.Param h = cc
nothing_spelled sorts.Mark h = cc

-- a blob begins, or none does, by the first two bytes
blob_longer : (b : ℕ) (bs : List ℕ) (k : ℕ) → begins_blob (b ∷ take k bs) ≡ true → begins_blob (b ∷ bs) ≡ true
blob_longer b bs zero h = absurd cc
blob_longer b [] (suc k) h = absurd cc
blob_longer b (c ∷ bs) (suc k) h = h

no_blob : (b : ℕ) (bs : List ℕ) → (false || not (begins_blob (b ∷ bs))) ≡ true → begins_blob (b ∷ bs) ≡ false
no_blob b bs h = not-true (begins_blob (b ∷ bs)) h

-- what is spelled begins as its sort, for each sort
sort_spelled : (s : TokenSort) (b : ℕ) (bs : List ℕ) (k : ℕ) → k ≤ length bs → is_spelling s (b ∷ take k bs) ≡ true →
    (is_blob_sort s || not (begins_blob (b ∷ bs))) ≡ true → sort_at (b ∷ bs) ≡ s
unfolding is_spelling
sort_spelled sorts.Word b bs k l h n = sort_plain b bs (no_blob b bs n) ∙ cond-true (is_letter b) _ _ (and_parts _ _ h).0
sort_spelled sorts.Number b bs k l h n =
    let digit : is_ascii_digit b ≡ true = (and_parts _ _ h).0 in
    sort_plain b bs (no_blob b bs n) ∙ (cond-false (is_letter b) _ _ (plain_digit b digit) ∙ cond-true (is_ascii_digit b) _ _ digit)
sort_spelled sorts.TextLit b bs k l h n =
    let quote : (b == 39) ≡ true = true_from_ne_false (b == 39) (λ e. both_ways _ (ap (λ (o : Option (List ℕ)). option_map_or is_utf8 o false) (cond-false (b == 39) _ _ e)) h) in
    sort_plain b bs (no_blob b bs n) ∙ plain_quote b (eqb-true b 39 quote)
sort_spelled sorts.BlobLit b bs k l h n = cond-true (begins_blob (b ∷ bs)) _ _ (blob_longer b bs k (and_parts _ _ h).0)
sort_spelled sorts.Param b bs k l h n = sort_plain b bs (no_blob b bs n) ∙ plain_param b (eqb-true b 63 (and_parts _ _ h).0)
sort_spelled sorts.Mark b bs k l h n =
    let fits : MarkSize b bs (suc k) = mark_size b bs (suc k) (omega arith) h in
    let first : only_mark b ≡ true = elim fits [ inl p ↦ single_mark b p.1 | inr p ↦ pair_mark b (get_or bs 0 0) p.2 ] in
    sort_plain b bs (no_blob b bs n) ∙ plain_mark b first

-- the first bytes tell the sort of what they spell
pub sort_front : (s : TokenSort) (m : ℕ) (bytes : List ℕ) → m ≤ length bytes → spells_front s m bytes ≡ true → sort_at bytes ≡ s
sort_front s zero bytes l h = absurd (nothing_spelled s (and_parts _ _ h).0)
sort_front s (suc m) [] l h = absurd (omega arith)
sort_front s (suc m) (b ∷ bs) l h =
    let p = and_parts (is_spelling s (b ∷ take m bs)) (is_blob_sort s || not (begins_blob (b ∷ bs))) h in
    sort_spelled s b bs m (omega arith) p.0 p.1

-- so all that is spelled at one place is of one sort
pub one_sort : (s t : TokenSort) (m n : ℕ) (bytes : List ℕ) → m ≤ length bytes → n ≤ length bytes → spells_front s m bytes ≡ true → spells_front t n bytes ≡ true → s ≡ t
one_sort s t m n bytes k l g h = sym (sort_front s m bytes k g) ∙ sort_front t n bytes l h

-- how many bytes tell the sort, and the test of the bytes behind them
abbrev pub head_size : TokenSort → ℕ
head_size sorts.Word = 1
head_size sorts.Number = 1
head_size sorts.TextLit = 1
head_size sorts.BlobLit = 2
head_size sorts.Param = 1
head_size sorts.Mark = 0

abbrev pub tail_test : TokenSort → List ℕ → Bool
tail_test sorts.Word bs = list_all is_word_byte bs
tail_test sorts.Number bs = list_all is_ascii_digit bs
tail_test sorts.TextLit bs = is_quoted_text bs
tail_test sorts.BlobLit bs = is_hex_to_quote bs
tail_test sorts.Param bs = list_all is_ascii_digit bs
tail_test sorts.Mark bs = is_mark_text bs

-- tests of the first bytes that are known, beside a test of the others
unmarked : (y z : Bool) → z ≡ false → (y && (false || not z)) ≡ y
unmarked true true h = absurd cc
unmarked true false h = refl
unmarked false z h = refl

headed : (x y z : Bool) → x ≡ true → z ≡ false → ((x && y) && (false || not z)) ≡ y
headed true y z h k = unmarked y z k
headed false y z h k = absurd cc

blob_tail : (x y z : Bool) → x ≡ true → ((x && y) && (true || z)) ≡ y
blob_tail true true z h = refl
blob_tail true false z h = refl
blob_tail false y z h = absurd cc

-- of bytes that begin as the sort, a front is a token if what follows the first bytes passes the test
tail_of : (s : TokenSort) (b : ℕ) (bs : List ℕ) (k : ℕ) → Begins s b bs → head_size s + k ≤ suc (length bs) →
    spells_front s (head_size s + k) (b ∷ bs) ≡ tail_test s (take k (drop (head_size s) (b ∷ bs)))
unfolding is_spelling
tail_of sorts.Word b bs k h l = rw (let e : 1 + k ≡ suc k = omega arith in e) (headed _ _ _ h.1 h.0)
tail_of sorts.Number b bs k h l = rw (let e : 1 + k ≡ suc k = omega arith in e) (headed _ _ _ h.1 h.0)
tail_of sorts.TextLit b bs k h l =
    rw (let e : 1 + k ≡ suc k = omega arith in e)
    (unmarked _ _ h.0 ∙ ap (λ (o : Option (List ℕ)). option_map_or is_utf8 o false) (cond-true (b == 39) _ _ h.1))
tail_of sorts.BlobLit b [] k h l = absurd cc
tail_of sorts.BlobLit b (c ∷ bs) k h l = rw (let e : 2 + k ≡ suc (suc k) = omega arith in e) (blob_tail _ _ (not (begins_blob (b ∷ c ∷ bs))) h)
tail_of sorts.Param b bs k h l = rw (let e : 1 + k ≡ suc k = omega arith in e) (headed _ _ _ h.1 h.0)
tail_of sorts.Mark b bs k h l = rw (let e : 0 + k ≡ k = omega arith in e) (unmarked _ _ h)

-- a token takes a byte or more, and no less than its first bytes
front_size : (s : TokenSort) (m : ℕ) (bytes : List ℕ) → spells_front s m bytes ≡ true → (0 < m) × (head_size s ≤ m)
unfolding is_spelling
front_size s zero bytes h = absurd (nothing_spelled s (and_parts _ _ h).0)
front_size sorts.BlobLit (suc zero) [] h = absurd cc
front_size sorts.BlobLit (suc zero) (b ∷ bs) h = absurd cc
front_size sorts.BlobLit (suc (suc m)) bytes h = (omega arith, omega arith)
front_size sorts.Word (suc m) bytes h = (omega arith, omega arith)
front_size sorts.Number (suc m) bytes h = (omega arith, omega arith)
front_size sorts.TextLit (suc m) bytes h = (omega arith, omega arith)
front_size sorts.Param (suc m) bytes h = (omega arith, omega arith)
front_size sorts.Mark (suc m) bytes h = (omega arith, omega arith)

-- a front of the text from a place on, by the test
tail_slice : (s : TokenSort) (text : List ℕ) (from m : ℕ) → from < length text → sort_at (drop from text) ≡ s → head_size s ≤ m → m ≤ length (drop from text) →
    spells_front s m (drop from text) ≡ tail_test s (take (from + m - (from + head_size s)) (drop (from + head_size s) text))
tail_slice s text from m l sorted room within =
    let b : ℕ = get_or text from 0 in
    let bs : List ℕ = drop (from + 1) text in
    let whole : drop from text ≡ b ∷ bs = drop_more text from 0 l in
    let k : ℕ = m - head_size s in
    let begins : Begins s b bs = subst (λ (t : TokenSort). Begins t b bs) (sym (ap (λ (z : List ℕ). sort_at z) whole) ∙ sorted) (begins_as b bs) in
    let size : head_size s + k ≡ m = omega arith in
    let count : k ≡ from + m - (from + head_size s) = omega arith in
    let tail : spells_front s (head_size s + k) (b ∷ bs) ≡ tail_test s (take k (drop (head_size s) (b ∷ bs))) = tail_of s b bs k begins (omega (arith, ap length whole)) in
    let place : drop (head_size s) (b ∷ bs) ≡ drop (from + head_size s) text = ap (λ (z : List ℕ). drop (head_size s) z) (sym whole) ∙ drop-drop (head_size s) from text in
    ap (λ (z : List ℕ). spells_front s m z) whole ∙
    (ap (λ (z : ℕ). spells_front s z (b ∷ bs)) (sym size) ∙
    (tail ∙ (ap (λ (z : List ℕ). tail_test s (take k z)) place ∙ ap (λ (z : ℕ). tail_test s (take z (drop (from + head_size s) text))) count)))

-- the token that begins at a place, by its sort and the end of its longest tail
token_ends : (s : TokenSort) (text : List ℕ) (from upto : ℕ) → from < length text → sort_at (drop from text) ≡ s →
    EndsAt (tail_test s) text (from + head_size s) (length text) upto → IsTokenAt text from (record { sort = s; from = from; upto = upto })
token_ends s text from upto l sorted ends =
    let n : ℕ = upto - from in
    let size : length (drop from text) ≡ length text - from = length-drop from text in
    let at : from + n ≡ upto = omega (arith, ends.rising) in
    let room : head_size s ≤ n = omega (arith, ends.rising) in
    let within : n ≤ length (drop from text) = omega (arith, size, ends.inside) in
    let spelled : spells_front s n (drop from text) ≡ true =
    tail_slice s text from n l sorted room within ∙ ap (λ (z : ℕ). tail_test s (take (z - (from + head_size s)) (drop (from + head_size s) text))) at ∙ ends.passed in
    record {
      begins = refl;
      token = record {
        rising = omega (arith, ends.rising);
        inside = ends.inside;
        longest = record {
          some = (front_size s n (drop from text) spelled).0;
          inside = within;
          spelled = spelled;
          longest = λ t m over bound h.
              (let same : t ≡ s = sym (sort_front t m (drop from text) bound h) ∙ sorted in
              let front : spells_front s m (drop from text) ≡ true = subst (λ (z : TokenSort). spells_front z m (drop from text) ≡ true) same h in
              ends.longest (from + m) (omega (arith, at)) (omega (arith, size)) (sym (tail_slice s text from m l sorted (omega (arith, room)) bound) ∙ front));
        };
      };
    }

-- no token begins at a place where no tail does
token_none : (s : TokenSort) (text : List ℕ) (from : ℕ) → from < length text → sort_at (drop from text) ≡ s →
    EndsNowhere (tail_test s) text (from + head_size s) (length text) → NoneIn (drop from text)
token_none s text from l sorted ends = record {
  none = λ t m bound h.
      (let size : length (drop from text) ≡ length text - from = length-drop from text in
      let same : t ≡ s = sym (sort_front t m (drop from text) bound h) ∙ sorted in
      let front : spells_front s m (drop from text) ≡ true = subst (λ (z : TokenSort). spells_front z m (drop from text) ≡ true) same h in
      let room : head_size s ≤ m = (front_size s m (drop from text) front).1 in
      ends.none (from + m) (omega (arith, room)) (omega (arith, size)) (sym (tail_slice s text from m l sorted room bound) ∙ front));
}

-- the same where the sort is an answer s that is known to be t
pub token_with : (s t : TokenSort) (text : List ℕ) (from upto : ℕ) → from < length text → s ≡ sort_at (drop from text) → s ≡ t →
    EndsAt (tail_test t) text (from + head_size t) (length text) upto → IsTokenAt text from (record { sort = s; from = from; upto = upto })
token_with s t text from upto l sorted same ends =
    token_ends s text from upto l (sym sorted) (subst (λ (z : TokenSort). EndsAt (tail_test z) text (from + head_size z) (length text) upto) (sym same) ends)

pub token_nowhere : (s t : TokenSort) (text : List ℕ) (from : ℕ) → from < length text → s ≡ sort_at (drop from text) → s ≡ t →
    EndsNowhere (tail_test t) text (from + head_size t) (length text) → NoneIn (drop from text)
token_nowhere s t text from l sorted same ends =
    token_none s text from l (sym sorted) (subst (λ (z : TokenSort). EndsNowhere (tail_test z) text (from + head_size z) (length text)) (sym same) ends)

-- an answer `None`
pub none_given : {A : Type 0} (o : Option A) (P : Type 0) (Q : A → Type 0) → o ≡ None → P → MatchOption o P Q
none_given None P Q e h = h
none_given (Some x) P Q e h = absurd cc

-- the two bytes with which a blob begins
blob_pair : (b : ℕ) (bs : List ℕ) → begins_blob (b ∷ bs) ≡ true → (1 ≤ length bs) × ((b ≡ 120) ⊎ (b ≡ 88)) × (get_or bs 0 0 ≡ 39)
blob_pair b [] h = absurd cc
blob_pair b (c ∷ bs) h =
    let p = and_parts (b == 120 || b == 88) (c == 39) h in
    let first : (b ≡ 120) ⊎ (b ≡ 88) = elim (or_cases (b == 120) (b == 88) p.0) [ inl e ↦ inl (eqb-true b 120 e) | inr e ↦ inr (eqb-true b 88 e) ] in
    (omega arith, first, eqb-true c 39 p.1)

-- the same at a place of a text
pub blob_bytes : (text : List ℕ) (from : ℕ) → from < length text → begins_blob (drop from text) ≡ true →
    (from + 1 < length text) × ((get_or text from 0 ≡ 120) ⊎ (get_or text from 0 ≡ 88)) × (get_or text (from + 1) 0 ≡ 39)
blob_bytes text from l h =
    let rest : List ℕ = drop (from + 1) text in
    let p = blob_pair (get_or text from 0) rest (subst (λ (z : List ℕ). begins_blob z ≡ true) (drop_more text from 0 l) h) in
    let next : get_or rest 0 0 ≡ get_or text (from + 1) 0 = get_or-drop (from + 1) text 0 0 ∙ ap (λ (z : ℕ). get_or text z 0) (let e : from + 1 + 0 ≡ from + 1 = omega arith in e) in
    (omega (arith, p.0, length-drop (from + 1) text), p.1, sym next ∙ p.2)

-- a place at which a blob must begin has room for its first bytes
pub blob_room : (text : List ℕ) (from : ℕ) → from < length text → sort_at (drop from text) ≡ sorts.BlobLit → from + 2 ≤ length text
blob_room text from l sorted =
    let whole : drop from text ≡ get_or text from 0 ∷ drop (from + 1) text = drop_more text from 0 l in
    let begins : Begins sorts.BlobLit (get_or text from 0) (drop (from + 1) text) =
    subst (λ (t : TokenSort). Begins t (get_or text from 0) (drop (from + 1) text)) (sym (ap (λ (z : List ℕ). sort_at z) whole) ∙ sorted) (begins_as (get_or text from 0) (drop (from + 1) text)) in
    let p = blob_pair (get_or text from 0) (drop (from + 1) text) begins in
    omega (arith, p.0, length-drop (from + 1) text)
