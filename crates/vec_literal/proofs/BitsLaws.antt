-- What the crate `hex` reads is what a text of digits spells, and its errors are the faults.
use Rattle.std.proofs.Common.{◌≡◌, ℕ, ◌+◌, ◌*◌, ◌/◌, ◌%◌, ◌<◌, length, Result, Ok, Err, Bool, true, false, inl, inr, List, [], ◌∷◌, Option, Some, None, refl, sym, ◌∙◌, ap, subst, arith, take}
use Rattle.std.specs.Prelude.{◌⊎◌, slice_index, IfOk, IfErr}
use Rattle.std.specs.List.{AllPass}
use Rattle.std.specs.Result.{result_unwrap_or}
use Rattle.std.proofs.lemmas.Bool.{cases_eq, cases_lt}
use Rattle.std.proofs.lemmas.List.{length-take-le, get_or-take}
use Rattle.std.proofs.lemmas.List.Elements.{All-get_or}
use Rattle.hex.specs.declared.error.FromHexError.{FromHexError}
use Rattle.hex.specs.declared.error.FromHexError.TheVariants.{InvalidHexCharacter, OddLength, InvalidStringLength, OutOfMemory}
use Rattle.hex.specs.Hex.{hex_digit_value, is_hex_digit, digit_or_error, decode_pairs, decode_of, ◌>>=◌}
use Rattle.hex.proofs.HexLemmas.{decode_pairs-ok, decode_of-even, decode_of-ok, decode_of-odd, decode_of-err}
use Rattle.vec_base.specs.Answers.{IsExactAnswer}
use Rattle.vec_base.proofs.AnswerLaws.{exact_by}
use Rattle.vec_literal.specs.declared.int8.LitFault.{LitFault}
use Rattle.vec_literal.specs.declared.int8.LitFault.TheVariants.{Place, Range, OddHex, Memory}
use Rattle.vec_literal.specs.Bits.{SpellsBits, IsBitsFault}

-- pairs that are spelled are decoded
pub spells_decodes : (i : ℕ) (text bytes : List ℕ) → SpellsBits text bytes → decode_pairs i text ≡ Ok bytes
unfolding decode_pairs
spells_decodes i [] [] h = refl
spells_decodes i (high ∷ low ∷ text) (b ∷ bytes) (h, l, rest) =
    let behind = spells_decodes (i + 2) text bytes rest in
    let same : b / 16 * 16 + b % 16 ≡ b = omega arith in
    rw (h, l, behind, same) refl
spells_decodes i [] (b ∷ bytes) h = absurd h
spells_decodes i (d ∷ []) bytes h = absurd h
spells_decodes i (high ∷ low ∷ text) [] h = absurd h

-- the digits and the bytes that a decoded pair and its rest were joined of
joined : (high low i : ℕ) (x y : Option ℕ) (r : Result (List ℕ) FromHexError) (bytes : List ℕ) →
    ((digit_or_error high i x >>= (λ h. digit_or_error low (i + 1) y >>= (λ l. Ok (h * 16 + l)))) >>= (λ b. r >>= (λ bs. Ok (b ∷ bs)))) ≡ Ok bytes →
    (h l : ℕ) × (bs : List ℕ) × (x ≡ Some h) × (y ≡ Some l) × (r ≡ Ok bs) × (bytes ≡ (h * 16 + l) ∷ bs)
joined high low i (Some h) (Some l) (Ok bs) bytes e = (h, l, bs, refl, refl, refl, ap (λ (q : Result (List ℕ) FromHexError). result_unwrap_or q []) (sym e))
joined high low i (Some h) (Some l) (Err f) bytes e = absurd (cc e)
joined high low i (Some h) None r bytes e = absurd (cc e)
joined high low i None y r bytes e = absurd (cc e)

-- a digit's value is below 16
pub digit_small : (c v : ℕ) → hex_digit_value c ≡ Some v → v < 16
digit_small c v h = grind (arith)

-- pairs that are decoded are spelled
pub decodes_spells : (i : ℕ) (text bytes : List ℕ) → decode_pairs i text ≡ Ok bytes → SpellsBits text bytes
unfolding decode_pairs
decodes_spells i [] bytes e =
    let same : [] ≡ bytes = ap (λ (q : Result (List ℕ) FromHexError). result_unwrap_or q []) e in
    subst (λ (x : List ℕ). SpellsBits [] x) same tt
decodes_spells i (d ∷ []) bytes e = absurd (cc e)
decodes_spells i (high ∷ low ∷ text) bytes e =
    let (h, l, bs, first, second, behind, whole) = joined high low i (hex_digit_value high) (hex_digit_value low) (decode_pairs (i + 2) text) bytes e in
    let few = digit_small low l second in
    let sixteens : h ≡ (h * 16 + l) / 16 = omega (arith, few) in
    let ones : l ≡ (h * 16 + l) % 16 = omega (arith, few) in
    subst (λ (x : List ℕ). SpellsBits (high ∷ low ∷ text) x) (sym whole)
    (first ∙ ap (λ (v : ℕ). Some v) sixteens, second ∙ ap (λ (v : ℕ). Some v) ones, decodes_spells (i + 2) text bs behind)

-- the bytes of a whole text

pub decoded_spelled : (text bytes : List ℕ) → decode_of text ≡ Ok bytes → SpellsBits text bytes
decoded_spelled text bytes e =
    let ok = decode_of-ok text bytes e in
    decodes_spells 0 text bytes (sym (decode_of-even text ok.0) ∙ e)

pub spelled_decoded : (text bytes : List ℕ) → SpellsBits text bytes → decode_of text ≡ Ok bytes
spelled_decoded text bytes h =
    let read = spells_decodes 0 text bytes h in
    let twice = (decode_pairs-ok 0 text bytes read).1 in
    decode_of-even text (omega (arith, twice)) ∙ read

-- the fault that an error of `hex` is told by
abbrev pub fault_of : FromHexError → LitFault
fault_of (InvalidHexCharacter c i) = Place i
fault_of OddLength = OddHex
fault_of InvalidStringLength = Memory
fault_of OutOfMemory = Memory

-- an error of `hex` other than want of memory tells the text's fault
decoded_fault : (text : List ℕ) (e : FromHexError) → decode_of text ≡ Err e → IsBitsFault text (fault_of e)
decoded_fault text e h =
    elim (decode_of-err text e h) [
      | inl odd ↦ subst (λ (f : FromHexError). IsBitsFault text (fault_of f)) (sym odd.1) odd.0
      | inr bad ↦
          let even : length text % 2 ≡ 0 = elim (cases_eq (length text % 2) 1) [
            | inl odd ↦ absurd (cc (sym (decode_of-odd text odd) ∙ (h ∙ ap (λ (f : FromHexError). Err f) bad.1)))
            | inr other ↦ omega arith
          ] in
          let place : 0 + bad.0 ≡ bad.0 = omega arith in
          subst (λ (f : FromHexError). IsBitsFault text (fault_of f)) (sym bad.1) (subst (λ (k : ℕ). IsBitsFault text (Place k)) (sym place) (even, bad.2, bad.3, bad.4))
    ]

-- a text with a fault spells no bytes

parity : (n : ℕ) → n % 2 ≡ 0 → n % 2 ≡ 1 → ⊥
parity n even odd = omega arith

all_digits : (text : List ℕ) (k : ℕ) → AllPass is_hex_digit text → k < length text → is_hex_digit (slice_index text k) ≡ false → ⊥
all_digits text k digits within bad = let good : is_hex_digit (slice_index text k) ≡ true = All-get_or (λ c. is_hex_digit c ≡ true) text k 0 within digits in cc (sym good ∙ bad)

fault_spells_none : (text bytes : List ℕ) (f : LitFault) → IsBitsFault text f → SpellsBits text bytes → ⊥
fault_spells_none text bytes OddHex odd s = parity (length text) (decode_of-ok text bytes (spelled_decoded text bytes s)).0 odd
fault_spells_none text bytes (Place k) bad s = all_digits text k (decode_of-ok text bytes (spelled_decoded text bytes s)).1 bad.1 bad.2
fault_spells_none text bytes (Range i) bad s = bad
fault_spells_none text bytes Memory bad s = bad

-- and it has one fault only

earlier : (text : List ℕ) (j k : ℕ) → j < k → IsBitsFault text (Place j) → IsBitsFault text (Place k) → ⊥
earlier text j k less first second =
    let count : length (take k text) ≡ k = length-take-le k text (omega (arith, second.1)) in
    let inside : j < length (take k text) = omega (arith, count, less) in
    all_digits (take k text) j second.3 inside (ap is_hex_digit (get_or-take k text j 0 less) ∙ first.2)

one_place : (text : List ℕ) (j k : ℕ) → IsBitsFault text (Place j) → IsBitsFault text (Place k) → j ≡ k
one_place text j k first second =
    elim (cases_lt j k) [
      | inl less ↦ absurd (earlier text j k less first second)
      | inr other ↦
          elim (cases_lt k j) [
            | inl less ↦ absurd (earlier text k j less second first)
            | inr same ↦ omega (arith, other, same)
          ]
    ]

one_fault : (text : List ℕ) (f g : LitFault) → IsBitsFault text f → IsBitsFault text g → f ≡ g
one_fault text OddHex OddHex h k = refl
one_fault text OddHex (Place j) h k = absurd (parity (length text) k.0 h)
one_fault text (Place j) OddHex h k = absurd (parity (length text) h.0 k)
one_fault text (Place i) (Place j) h k = ap (λ (n : ℕ). Place n) (one_place text i j h k)
one_fault text (Range i) g h k = absurd h
one_fault text Memory g h k = absurd h
one_fault text OddHex (Range i) h k = absurd k
one_fault text OddHex Memory h k = absurd k
one_fault text (Place i) (Range j) h k = absurd k
one_fault text (Place i) Memory h k = absurd k

-- what `hex` answers where it decodes nothing
abbrev pub Refused : List ℕ → FromHexError → Type 0
Refused text e = (e ≡ OutOfMemory) ⊎ (decode_of text ≡ Err e)

-- an error that is told by a place or by the odd length
abbrev pub is_told : FromHexError → Bool
is_told (InvalidHexCharacter c i) = true
is_told OddLength = true
is_told InvalidStringLength = false
is_told OutOfMemory = false

-- want of memory is none
told_bad : (text : List ℕ) (e f : FromHexError) → Refused text e → e ≡ f → is_told f ≡ true → decode_of text ≡ Err f
told_bad text e f (inl memory) same told = absurd (cc (sym told ∙ ap is_told (sym same ∙ memory)))
told_bad text e f (inr bad) same told = bad ∙ ap (λ (x : FromHexError). Err x) same

pub other_told : (text : List ℕ) (e f : FromHexError) → Refused text e → e ≡ f → is_told f ≡ true → IsBitsFault text (fault_of f)
other_told text e f r same told = decoded_fault text f (told_bad text e f r same told)

-- a text spells one list of bytes
one_bytes : (text bytes read : List ℕ) → SpellsBits text bytes → SpellsBits text read → bytes ≡ read
one_bytes text bytes read h k =
    ap (λ (q : Result (List ℕ) FromHexError). result_unwrap_or q []) (sym (spelled_decoded text bytes h) ∙ spelled_decoded text read k)

-- so that an answer is exact where it is right
pub answered : (text : List ℕ) (result : Result (List ℕ) LitFault) → IfOk result (λ bytes. SpellsBits text bytes) → IfErr result (λ fault. (fault ≡ Memory) ⊎ IsBitsFault text fault) →
    IsExactAnswer Memory (λ bytes. SpellsBits text bytes) (λ fault. IsBitsFault text fault) result
answered text =
    exact_by Memory (λ bytes. SpellsBits text bytes) (λ fault. IsBitsFault text fault) (one_bytes text) (one_fault text)
    (λ bytes fault h bad. fault_spells_none text bytes fault bad h)
