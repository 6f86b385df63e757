-- Fields gone through one after another, and records of text.
use Rattle.std.proofs.Common.{◌≡◌, ◌++◌, ◌∷◌, [], ℕ, List, Bool, Some, None, true, false, refl, ap, subst, arith, zero, suc}
use Rattle.std.specs.Prelude.{◌+◌, ◌&&◌, ◌==◌, take, length}
use Rattle.std.specs.List.{list_all}
use Rattle.std.specs.Str.{is_utf8}
use Rattle.std.proofs.lemmas.Bool.{and_from, and_parts}
use Rattle.std.proofs.lemmas.Str.{IsUtf8-from_is_utf8, is_utf8-from_IsUtf8}
use Rattle.csv.specs.Records.{AllText, field_at}
use Rattle.csv_records.specs.Records.{Fields, first_width, is_good_behind}

next_taken : (fields : Fields) (at : ℕ) (field : List ℕ) → Some field ≡ field_at fields at → take (suc at) fields ≡ take at fields ++ field ∷ []
unfolding field_at
next_taken [] at field e = absurd (cc e)
next_taken (first ∷ fields) zero field e = ap (λ (f : List ℕ). f ∷ []) (cc e)
next_taken (first ∷ fields) (suc at) field e = ap (λ (t : Fields). first ∷ t) (next_taken fields at field e)

pub one_more : (fields : Fields) (at : ℕ) (field : List ℕ) → Some field ≡ field_at fields at → take (at + 1) fields ≡ take at fields ++ field ∷ []
one_more fields at field e =
    let next : suc at ≡ at + 1 = omega arith in
    subst (λ n. take n fields ≡ take at fields ++ field ∷ []) next (next_taken fields at field e)

pub at_end : (fields : Fields) (at : ℕ) → None ≡ field_at fields at → take at fields ≡ fields
unfolding field_at
at_end [] zero e = refl
at_end [] (suc at) e = refl
at_end (first ∷ fields) zero e = absurd (cc e)
at_end (first ∷ fields) (suc at) e = ap (λ (t : Fields). first ∷ t) (at_end fields at e)

-- ---- text

text_passes : (fields : Fields) → AllText fields → list_all is_utf8 fields ≡ true
unfolding AllText
text_passes [] h = refl
text_passes (field ∷ fields) h = and_from (is_utf8 field) (list_all is_utf8 fields) (is_utf8-from_IsUtf8 field h.0) (text_passes fields h.1)

passing_text : (fields : Fields) → list_all is_utf8 fields ≡ true → AllText fields
unfolding AllText
passing_text [] h = tt
passing_text (field ∷ fields) h =
    let parts = and_parts (is_utf8 field) (list_all is_utf8 fields) h in (IsUtf8-from_is_utf8 field parts.0, passing_text fields parts.1)

-- a record of text with the right number of fields is good
pub good_text : (before : List Fields) (fields : Fields) → (length fields == first_width (before ++ fields ∷ [])) ≡ true → AllText fields
    → is_good_behind before fields ≡ true
good_text before fields wide text = and_from (length fields == first_width (before ++ fields ∷ [])) (list_all is_utf8 fields) wide (text_passes fields text)

pub bad_width : (before : List Fields) (fields : Fields) → (length fields == first_width (before ++ fields ∷ [])) ≡ false → is_good_behind before fields ≡ false
bad_width before fields narrow = rw narrow refl

pub bad_text : (before : List Fields) (fields : Fields) → (AllText fields → ⊥) → is_good_behind before fields ≡ false
bad_text before fields no_text = by (list_all is_utf8 fields) (length fields == first_width (before ++ fields ∷ [])) (λ e. no_text (passing_text fields e))
  where
    by : (texts wide : Bool) → (texts ≡ true → ⊥) → (wide && texts) ≡ false
    by true wide h = absurd (h refl)
    by false true h = refl
    by false false h = refl
