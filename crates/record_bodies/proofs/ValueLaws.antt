-- Values that are read back from their bytes.
use Rattle.std.proofs.Common.{◌≡◌, ℕ, zero, suc, ◌-◌, ◌*◌, ◌/◌, ◌<◌, ◌≤◌, ◌^◌, ◌==◌, ℤ, pos, negsuc, List, [], ◌∷◌, ◌++◌, length, take, cond, Bool, true, false, ◌&&◌, nat_lt, nat_le, refl, sym, ap, ◌∙◌, arith, replicate, length-append, length-take, to_z-of_z, FitsSigned}
use Rattle.std.specs.declared.option.Option.TheVariants.{Some, None}
use Rattle.std.specs.Int.{cast_signed, cast_unsigned, w64}
use Rattle.std.specs.Option.{option_and_then}
use Rattle.std.specs.Str.{IsUtf8, is_utf8}
use Rattle.std.proofs.lemmas.Str.{is_utf8-from_IsUtf8, IsUtf8-from_is_utf8}
use Rattle.std.proofs.lemmas.List.{length-replicate}
use Rattle.std.proofs.lemmas.Bool.{and_parts, false_from_ne_true, false≢true, ltb-false, leb-true, eqb-true, ne_eqb}
use Rattle.std.proofs.lemmas.Bool.Decides.{Decides-int_eq}
use Rattle.std.proofs.lemmas.Nat.{from_le_bytes-to_le_bytes_4, from_le_bytes-to_le_bytes_8}
use Rattle.std.proofs.Math.Seq.{take-append_seam}
use Rattle.vec_base.specs.Representable.{IsRepresentable}
use Rattle.vec_base.specs.declared.value.Value.{Value}
use Rattle.vec_base.specs.declared.value.Value.TheVariants.{Null, Int, Text, Blob, Int8, Bits}
use Rattle.row_model.specs.declared.schema.Kind.TheVariants.{IntKey, TextKey, Int8Vector, BitVector, IntPartition, TextPartition, IntMeta, TextMeta, BoolMeta, IntAux, TextAux, BlobAux}
use Rattle.row_model.specs.declared.schema.Metric.{Metric}
use Rattle.row_model.specs.Valid.{is_valid_value}
use Rattle.shadow_records.specs.Cells.{number_bytes, text_view, is_one, long_text, side_body}
use Rattle.record_bodies.specs.Bodies.{number_in, int_in, text_in, blob_in, length_in, viewed_text, bool_of, side_value}

-- ---- numbers

small : (n : ℤ) → FitsSigned w64 n → cast_unsigned w64 n < 2 ^ 64
small (pos n) fits = (let h = fits.sfits in omega arith)
small (negsuc n) fits = (let h = fits.sfits in omega arith)

-- a number is what its bytes say
pub number_back : (n : ℤ) → FitsSigned w64 n → number_in (number_bytes n) ≡ n
number_back n fits = ap (cast_signed w64) (from_le_bytes-to_le_bytes_8 (cast_unsigned w64 n) (small n fits)) ∙ to_z-of_z fits

pub int_back : (n : ℤ) → FitsSigned w64 n → int_in (number_bytes n) ≡ Some (Int n)
int_back n fits = ap (λ k. Some (Int k)) (number_back n fits)

-- ---- texts

pub text_back : (text : List ℕ) → is_utf8 text ≡ true → text_in text ≡ Some (Text text)
text_back text utf8 = ap (λ b. cond b (Some (Text text)) None) utf8

pub utf8_text : (text : List ℕ) → IsUtf8 text → text_in text ≡ Some (Text text)
utf8_text text utf8 = text_back text (is_utf8-from_IsUtf8 text utf8)

pub no_text : (bytes : List ℕ) → (IsUtf8 bytes → ⊥) → text_in bytes ≡ None
no_text bytes none = ap (λ b. cond b (Some (Text bytes)) None) (false_from_ne_true (is_utf8 bytes) (λ e. none (IsUtf8-from_is_utf8 bytes e)))

filled_up : (text : List ℕ) → length text ≤ 12 → take 12 (text ++ replicate 12 0) ≡ text ++ take (12 - length text) (replicate 12 0)
filled_up text short = at 12 text (replicate 12 0) short where
  at : (k : ℕ) (xs ys : List ℕ) → length xs ≤ k → take k (xs ++ ys) ≡ xs ++ take (k - length xs) ys
  at k [] ys h = ap (λ n. take n ys) (omega arith)
  at zero (x ∷ xs) ys h = absurd (omega arith)
  at (suc k) (x ∷ xs) ys h = ap (λ l. x ∷ l) (at k xs ys (omega arith) ∙ ap (λ n. xs ++ take n ys) (omega arith))

pub length_view : (text : List ℕ) → length (text_view text) ≡ 16
length_view text =
    let inner : length (take 12 (text ++ replicate 12 0)) ≡ 12 = length-take 12 (text ++ replicate 12 0) ∙ omega (arith, length-append text (replicate 12 0), length-replicate {A = ℕ} 12 0) in
    omega (arith, inner)

length_viewed : (text : List ℕ) → length text < 2 ^ 32 → length_in (text_view text) ≡ length text
length_viewed text fits = from_le_bytes-to_le_bytes_4 (length text) fits

-- a text is what its view and its own record say
pub view_back : (text : List ℕ) → length text < 2 ^ 32 → is_utf8 text ≡ true → viewed_text (long_text (Text text)) (text_view text) ≡ Some (Text text)
view_back text fits utf8 =
    ap (λ n. cond (nat_lt 12 n) (option_and_then text_in (long_text (Text text))) (text_in (take n (take 12 (text ++ replicate 12 0))))) (length_viewed text fits)
    ∙ by (nat_lt 12 (length text)) refl where
      by : (b : Bool) → nat_lt 12 (length text) ≡ b →
          cond b (option_and_then text_in (cond b (Some text) None)) (text_in (take (length text) (take 12 (text ++ replicate 12 0)))) ≡ Some (Text text)
      by true e = text_back text utf8
      by false e =
          let short : length text ≤ 12 = ltb-false 12 (length text) e in
          ap (λ l. text_in (take (length text) l)) (filled_up text short) ∙ ap text_in (take-append_seam text (take (12 - length text) (replicate 12 0))) ∙ text_back text utf8

-- ---- what a valid value of a kind is

pub as_int8 : (width : ℕ) (metric : Metric) (rowid : ℤ) (x : Value) → is_valid_value (Int8Vector width metric) rowid x ≡ true → (vector : List ℕ) × ((x ≡ Int8 vector) × (length vector ≡ width))
as_int8 w m i Null e = absurd (false≢true e)
as_int8 w m i (Int n) e = absurd (false≢true e)
as_int8 w m i (Text t) e = absurd (false≢true e)
as_int8 w m i (Blob b) e = absurd (false≢true e)
as_int8 w m i (Int8 vector) e = (vector, (refl, sym (eqb-true w (length vector) (and_parts (w == length vector) (nat_le 0 1048576) e).0)))
as_int8 w m i (Bits b) e = absurd (false≢true e)

pub as_bits : (width : ℕ) (rowid : ℤ) (x : Value) → is_valid_value (BitVector width) rowid x ≡ true → (vector : List ℕ) × ((x ≡ Bits vector) × (length vector ≡ width / 8))
as_bits w i Null e = absurd (false≢true e)
as_bits w i (Int n) e = absurd (false≢true e)
as_bits w i (Text t) e = absurd (false≢true e)
as_bits w i (Blob b) e = absurd (false≢true e)
as_bits w i (Int8 v) e = absurd (false≢true e)
as_bits w i (Bits vector) e = (let same = eqb-true w (8 * length vector) (and_parts (w == 8 * length vector) (nat_le 0 1048576) e).0 in (vector, (refl, omega (arith, same))))

abbrev pub IsInt : Value → Type 0
IsInt x = (n : ℤ) × (x ≡ Int n)

-- a text whose length four bytes tell
abbrev pub IsText : Value → Type 0
IsText x = (text : List ℕ) × ((x ≡ Text text) × (length text < 2 ^ 32))

abbrev of_text : (t : List ℕ) → (true && (true && nat_le (length t) 1048576)) ≡ true → IsText (Text t)
of_text t e = (let le = leb-true (length t) 1048576 e in (t, (refl, omega arith)))

pub as_int : (rowid : ℤ) (x : Value) → is_valid_value IntMeta rowid x ≡ true → IsInt x
as_int i Null e = absurd (false≢true e)
as_int i (Int n) e = (n, refl)
as_int i (Text t) e = absurd (false≢true e)
as_int i (Blob b) e = absurd (false≢true e)
as_int i (Int8 v) e = absurd (false≢true e)
as_int i (Bits v) e = absurd (false≢true e)

pub as_partition_int : (rowid : ℤ) (x : Value) → is_valid_value IntPartition rowid x ≡ true → IsInt x
as_partition_int i Null e = absurd (false≢true e)
as_partition_int i (Int n) e = (n, refl)
as_partition_int i (Text t) e = absurd (false≢true e)
as_partition_int i (Blob b) e = absurd (false≢true e)
as_partition_int i (Int8 v) e = absurd (false≢true e)
as_partition_int i (Bits v) e = absurd (false≢true e)

pub as_text : (rowid : ℤ) (x : Value) → is_valid_value TextMeta rowid x ≡ true → IsText x
as_text i Null e = absurd (false≢true e)
as_text i (Int n) e = absurd (false≢true e)
as_text i (Text t) e = of_text t e
as_text i (Blob b) e = absurd (false≢true e)
as_text i (Int8 v) e = absurd (false≢true e)
as_text i (Bits v) e = absurd (false≢true e)

pub as_partition_text : (rowid : ℤ) (x : Value) → is_valid_value TextPartition rowid x ≡ true → IsText x
as_partition_text i Null e = absurd (false≢true e)
as_partition_text i (Int n) e = absurd (false≢true e)
as_partition_text i (Text t) e = of_text t e
as_partition_text i (Blob b) e = absurd (false≢true e)
as_partition_text i (Int8 v) e = absurd (false≢true e)
as_partition_text i (Bits v) e = absurd (false≢true e)

pub as_id : (rowid : ℤ) (x : Value) → is_valid_value TextKey rowid x ≡ true → IsText x
as_id i Null e = absurd (false≢true e)
as_id i (Int n) e = absurd (false≢true e)
as_id i (Text t) e = of_text t e
as_id i (Blob b) e = absurd (false≢true e)
as_id i (Int8 v) e = absurd (false≢true e)
as_id i (Bits v) e = absurd (false≢true e)

pub as_bool : (rowid : ℤ) (x : Value) → is_valid_value BoolMeta rowid x ≡ true → bool_of (is_one x) ≡ x
as_bool i Null e = absurd (false≢true e)
as_bool i (Int (pos zero)) e = refl
as_bool i (Int (pos (suc zero))) e = refl
as_bool i (Int (pos (suc (suc n)))) e = absurd (false≢true (sym (rw (ne_eqb (suc (suc n)) 0 (λ f. absurd (omega arith)), ne_eqb (suc (suc n)) 1 (λ f. absurd (omega arith))) refl) ∙ e))
as_bool i (Int (negsuc n)) e = absurd (false≢true e)
as_bool i (Text t) e = absurd (false≢true e)
as_bool i (Blob b) e = absurd (false≢true e)
as_bool i (Int8 v) e = absurd (false≢true e)
as_bool i (Bits v) e = absurd (false≢true e)

pub as_key : (rowid : ℤ) (x : Value) → is_valid_value IntKey rowid x ≡ true → Int rowid ≡ x
as_key i Null e = absurd (false≢true e)
as_key i (Int n) e = ap Int (sym ((Decides-int_eq n i).0 e))
as_key i (Text t) e = absurd (false≢true e)
as_key i (Blob b) e = absurd (false≢true e)
as_key i (Int8 v) e = absurd (false≢true e)
as_key i (Bits v) e = absurd (false≢true e)

-- ---- auxiliary values

pub int_side_back : (rowid : ℤ) (x : Value) → is_valid_value IntAux rowid x ≡ true → IsRepresentable x → side_value int_in (side_body x) ≡ Some x
int_side_back i Null e h = refl
int_side_back i (Int n) e h = int_back n h
int_side_back i (Text t) e h = absurd (false≢true e)
int_side_back i (Blob b) e h = absurd (false≢true e)
int_side_back i (Int8 v) e h = absurd (false≢true e)
int_side_back i (Bits v) e h = absurd (false≢true e)

pub text_side_back : (rowid : ℤ) (x : Value) → is_valid_value TextAux rowid x ≡ true → IsRepresentable x → side_value text_in (side_body x) ≡ Some x
text_side_back i Null e h = refl
text_side_back i (Int n) e h = absurd (false≢true e)
text_side_back i (Text t) e h = text_back t h
text_side_back i (Blob b) e h = absurd (false≢true e)
text_side_back i (Int8 v) e h = absurd (false≢true e)
text_side_back i (Bits v) e h = absurd (false≢true e)

pub blob_side_back : (rowid : ℤ) (x : Value) → is_valid_value BlobAux rowid x ≡ true → side_value blob_in (side_body x) ≡ Some x
blob_side_back i Null e = refl
blob_side_back i (Int n) e = absurd (false≢true e)
blob_side_back i (Text t) e = absurd (false≢true e)
blob_side_back i (Blob b) e = refl
blob_side_back i (Int8 v) e = absurd (false≢true e)
blob_side_back i (Bits v) e = absurd (false≢true e)
