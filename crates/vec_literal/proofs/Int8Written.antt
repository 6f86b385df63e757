-- The literal that is written spells its vector.
use Rattle.std.proofs.Common.{◌≡◌, ℕ, suc, ◌^◌, ◌<◌, inl, inr, List, [], ◌∷◌, map, get_or, All, refl, sym, ◌∙◌, ap, subst, Fits, arith}
use Rattle.std.specs.Prelude.{ℤ, pos, negsuc, ◌-ℤ◌}
use Rattle.std.specs.Fmt.{decimal, signed_decimal}
use Rattle.std.specs.Int.{w8, cast_signed, cast_unsigned}
use Rattle.std.proofs.lemmas.Int.{ints, of_z-to_z}
use Rattle.std.proofs.lemmas.List.{append-nil}
use Rattle.std.proofs.lemmas.List.Elements.{All-head, All-tail, All-nil, All-cons, All-from_get_or}
use Rattle.vec_literal.specs.Int8.{SpellsNumber, SpellsElement, SpellsElements, SpellsInside, IsElement, SpellsInt8}
use Rattle.vec_text.specs.ValueTexts.{element_text, elements_text, int8_text}
use Rattle.vec_literal.proofs.Int8Digits.{plain_spelled, minus_spelled}
use Rattle.vec_literal.proofs.Int8Elements.{bare_element}

-- the decimal text of an element spells it
number_spelled : (z : ℤ) → IsElement z → SpellsNumber (signed_decimal z) z
number_spelled (pos n) h = plain_spelled n (omega (arith, ints, h.1))
number_spelled (negsuc n) h =
    let few : suc n < 2 ^ 64 = omega (arith, ints, h.0) in
    let same : pos 0 -ℤ pos (suc n) ≡ negsuc n = omega (arith, ints) in
    subst (λ (z : ℤ). SpellsNumber (45 ∷ decimal (suc n)) z) same (minus_spelled (suc n) few)

-- the number of a byte is an element
pub byte_fits : (b : ℕ) → b < 2 ^ 8 → IsElement (cast_signed w8 b)
byte_fits b h = (omega (arith, ints), omega (arith, ints))

abbrev AreBytes : List ℕ → Type 0
AreBytes v = All (λ b. b < 2 ^ 8) v

head_byte : (b : ℕ) (bs : List ℕ) → AreBytes (b ∷ bs) → b < 2 ^ 8
head_byte b bs h = All-head (λ c. c < 2 ^ 8) b bs h

tail_bytes : (b : ℕ) (bs : List ℕ) → AreBytes (b ∷ bs) → AreBytes bs
tail_bytes b bs h = All-tail (λ c. c < 2 ^ 8) b bs h

-- the text of a byte's number is an element of the list
byte_spelled : (b : ℕ) → b < 2 ^ 8 → SpellsElement (signed_decimal (cast_signed w8 b)) (cast_signed w8 b)
byte_spelled b h = bare_element (signed_decimal (cast_signed w8 b)) (cast_signed w8 b) (number_spelled (cast_signed w8 b) (byte_fits b h))

-- the text of elements spells their numbers
elements_spelled : (b : ℕ) (bs : List ℕ) → AreBytes (b ∷ bs) → SpellsElements (elements_text (b ∷ bs)) (map (cast_signed w8) (b ∷ bs))
elements_spelled b [] h = subst (λ (text : List ℕ). SpellsElement text (cast_signed w8 b)) (sym (append-nil (element_text b))) (byte_spelled b (head_byte b [] h))
elements_spelled b (c ∷ cs) h =
    (signed_decimal (cast_signed w8 b), elements_text (c ∷ cs), refl, byte_spelled b (head_byte b (c ∷ cs) h), elements_spelled c cs (tail_bytes b (c ∷ cs) h))

inside_spelled : (v : List ℕ) → AreBytes v → SpellsInside (elements_text v) (map (cast_signed w8) v)
inside_spelled [] h = inl (refl, refl)
inside_spelled (b ∷ bs) h = inr (elements_spelled b bs h)

-- the numbers of bytes are elements, and give the bytes back

elements_fit : (v : List ℕ) → AreBytes v → All IsElement (map (cast_signed w8) v)
elements_fit [] h = All-nil IsElement
elements_fit (b ∷ bs) h = All-cons IsElement (cast_signed w8 b) (map (cast_signed w8) bs) (byte_fits b (head_byte b bs h)) (elements_fit bs (tail_bytes b bs h))

bytes_back : (v : List ℕ) → AreBytes v → v ≡ map (cast_unsigned w8) (map (cast_signed w8) v)
bytes_back [] h = refl
bytes_back (b ∷ bs) h =
    ap (λ (c : ℕ). c ∷ bs) (sym (of_z-to_z w8 b (head_byte b bs h)))
    ∙ ap (λ (x : List ℕ). cast_unsigned w8 (cast_signed w8 b) ∷ x) (bytes_back bs (tail_bytes b bs h))

-- the literal of bytes spells them
pub bytes_spell : (v : List ℕ) → AreBytes v → SpellsInt8 (int8_text v) v
bytes_spell v h = record {
  elements = map (cast_signed w8) v;
  list = record {
    before = [];
    inside = elements_text v;
    after = [];
    whole = refl;
    blank_before = refl;
    elements = inside_spelled v h;
    blank_after = refl;
  };
  fit = elements_fit v h;
  bytes = bytes_back v h;
}

-- a text that is the literal of bytes spells them
pub written_spells : (t v : List ℕ) → t ≡ int8_text v → ((i : ℕ) → Fits w8 (get_or v i 0)) → SpellsInt8 t v
written_spells t v e h = subst (λ (x : List ℕ). SpellsInt8 x v) (sym e) (bytes_spell v (All-from_get_or (λ b. b < 2 ^ 8) v 0 (λ i _. let f = h i in omega arith)))
