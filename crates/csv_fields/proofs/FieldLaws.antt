-- What is read of a field is exact, since a field stands for one value.
use Rattle.std.proofs.Common.{◌≡◌, ◌≢◌, ◌∙◌, ℕ, List, true, false, [], ◌∷◌, refl, sym, ap, subst, inl, inr, Result, Ok, Err, arith}
use Rattle.std.specs.Prelude.{◌⊎◌, IfOk, IfErr, codes, slice_index, ◌==◌, length}
use Rattle.std.proofs.lemmas.Bool.{eqb-true, false≢true}
use Rattle.hex.proofs.HexLemmas.{decode_of-same}
use Rattle.vec_base.proofs.AnswerLaws.{exact_by}
use Rattle.vec_base.specs.Answers.{Answers, IsExactAnswer}
use Rattle.vec_base.specs.declared.value.Value.{Value}
use Rattle.vec_base.specs.declared.value.Value.TheVariants.{Null, Int, Text, Blob, Int8, Bits}
use Rattle.vec_literal.specs.Bits.{SpellsBits}
use Rattle.vec_literal.specs.declared.int8.LitFault.{LitFault}
use Rattle.vec_literal.specs.declared.int8.LitFault.TheVariants as literal
use Rattle.vec_literal.proofs.BitsLaws.{spelled_decoded}
use Rattle.vec_literal.proofs.Int8Laws.{one_vector}
use Rattle.csv_fields.specs.Faults.{fault_of}
use Rattle.csv_fields.specs.Fields.{IsBitsField, IsBoolField, IsFormFault, IsInt8Field, IsIntField, IsMarkedBlob, IsMarkedText, IsNullField, IsTextField, ReadsField}
use Rattle.csv_fields.specs.declared.fault.FieldFault.{FieldFault}
use Rattle.csv_fields.specs.declared.fault.FieldFault.TheVariants.{Form, Memory}
use Rattle.csv_fields.proofs.NumberLaws.{none_spelled, one_number}

-- ---- exactness

-- there is at most one such value
abbrev pub IsOne : (Value → Type 0) → Type 0
IsOne Stands = (v w : Value) → Stands v → Stands w → v ≡ w

pub reads : (Stands : Value → Type 0) → IsOne Stands → (result : Result Value FieldFault) → IfOk result Stands
    → IfErr result (λ e. (e ≡ Memory) ⊎ IsFormFault Stands e) → ReadsField Stands result
reads Stands one = exact_by Memory Stands (IsFormFault Stands) one (λ e f h k. h.0 ∙ sym k.0) (λ v e h k. k.1 v h)

pub is_read : (Stands : Value → Type 0) → IsOne Stands → (v : Value) → Stands v → ReadsField Stands (Ok v)
is_read Stands one v h = reads Stands one (Ok v) h tt

pub no_form : (Stands : Value → Type 0) → IsOne Stands → ((v : Value) → Stands v → ⊥) → ReadsField Stands (Err Form)
no_form Stands one none = reads Stands one (Err Form) tt (inr (refl, none))

pub starved : (Stands : Value → Type 0) → IsOne Stands → ReadsField Stands (Err Memory)
starved Stands one = reads Stands one (Err Memory) tt (inl refl)

err_same : {A : Type 0} {e f : LitFault} → ◌≡◌ {A = Result A LitFault} (Err e) (Err f) → e ≡ f
err_same e = cc e

-- what is refused but for want of memory has no value
refused : (fault : LitFault) (bytes : List ℕ) → (fault ≡ literal.Memory → ⊥) → Answers {A = List ℕ} literal.Memory (Err fault) bytes → ⊥
refused fault bytes other (inl ok) = cc ok
refused fault bytes other (inr starving) = other (err_same starving)

-- where a literal spells nothing, neither does the field that is one
pub of_literal : (Spelled : List ℕ → Type 0) (Faulty : LitFault → Type 0) (Stands : Value → Type 0) → IsOne Stands
    → (fault : LitFault) → IsExactAnswer literal.Memory Spelled Faulty (Err fault)
    → ((v : Value) → Stands v → (bytes : List ℕ) × Spelled bytes) → ReadsField Stands (Err (fault_of fault))
of_literal Spelled Faulty Stands one literal.Memory exact spells = starved Stands one
of_literal Spelled Faulty Stands one (literal.Place index) exact spells =
    no_form Stands one (λ v h. let s = spells v h in refused (literal.Place index) s.0 (λ e. cc e) (exact.only_value s.0 s.1))
of_literal Spelled Faulty Stands one (literal.Range index) exact spells =
    no_form Stands one (λ v h. let s = spells v h in refused (literal.Range index) s.0 (λ e. cc e) (exact.only_value s.0 s.1))
of_literal Spelled Faulty Stands one literal.OddHex exact spells =
    no_form Stands one (λ v h. let s = spells v h in refused literal.OddHex s.0 (λ e. cc e) (exact.only_value s.0 s.1))

-- ---- one value each

pub one_int : (field : List ℕ) → IsOne (IsIntField field)
one_int field v w h k = h.3 ∙ ap Int (one_number field h.0 k.0 h.1 k.1) ∙ sym k.3

not_both : codes "0" ≡ codes "1" → ⊥
not_both e = let same : ◌≡◌ {A = ℕ} 48 49 = ap (λ (l : List ℕ). slice_index l 0) e in omega arith

pub one_bool : (field : List ℕ) → IsOne (IsBoolField field)
one_bool field v w (inl h) (inl k) = h.1 ∙ sym k.1
one_bool field v w (inl h) (inr k) = absurd (not_both (sym h.0 ∙ k.0))
one_bool field v w (inr h) (inl k) = absurd (not_both (sym k.0 ∙ h.0))
one_bool field v w (inr h) (inr k) = h.1 ∙ sym k.1

pub one_text : (field : List ℕ) → IsOne (IsTextField field)
one_text field v w h k = h ∙ sym k

pub one_int8 : (field : List ℕ) → IsOne (IsInt8Field field)
one_int8 field v w h k = h.2 ∙ ap Int8 (one_vector field h.0 k.0 h.1 k.1) ∙ sym k.2

same_bits : (digits a b : List ℕ) → SpellsBits digits a → SpellsBits digits b → a ≡ b
same_bits digits a b h k = decode_of-same digits a b (spelled_decoded digits a h) (spelled_decoded digits b k)

pub one_bits : (field : List ℕ) → IsOne (IsBitsField field)
one_bits field v w h k = h.2 ∙ ap Bits (same_bits field h.0 k.0 h.1 k.1) ∙ sym k.2

rest_same : {b : ℕ} {xs ys : List ℕ} → b ∷ xs ≡ b ∷ ys → xs ≡ ys
rest_same e = cc e

pub one_marked_text : (field : List ℕ) → IsOne (IsMarkedText field)
one_marked_text field v w h k = h.2 ∙ ap Text (rest_same (sym h.1 ∙ k.1)) ∙ sym k.2

pub one_marked_blob : (field : List ℕ) → IsOne (IsMarkedBlob field)
one_marked_blob field v w h k =
    let digits : k.0 ≡ h.0 = rest_same (sym k.2 ∙ h.2) in
    h.4 ∙ ap Blob (same_bits h.0 h.1 k.1 h.3 (subst (λ d. SpellsBits d k.1) digits k.3)) ∙ sym k.4

-- ---- NULL or another value

-- the field is NULL's, or stands for another value
abbrev pub IsNullOr : (List ℕ → Value → Type 0) → List ℕ → Value → Type 0
IsNullOr Other field value = IsNullField field value ⊎ Other field value

pub one_or_null : (Other : List ℕ → Value → Type 0) → ((v : Value) → Other [] v → ⊥) → (field : List ℕ) → IsOne (Other field) → IsOne (IsNullOr Other field)
one_or_null Other never field one v w (inl h) (inl k) = h.1 ∙ sym k.1
one_or_null Other never field one v w (inl h) (inr k) = absurd (never w (subst (λ f. Other f w) h.0 k))
one_or_null Other never field one v w (inr h) (inl k) = absurd (never v (subst (λ f. Other f v) k.0 h))
one_or_null Other never field one v w (inr h) (inr k) = one v w h k

-- a field of some bytes is not NULL's
pub behind_null : (Other : List ℕ → Value → Type 0) → ((v : Value) → Other [] v → ⊥) → (field : List ℕ) → IsOne (Other field) → field ≢ []
    → (result : Result Value FieldFault) → ReadsField (Other field) result → ReadsField (IsNullOr Other field) result
behind_null Other never field one some (Ok v) exact = is_read (IsNullOr Other field) (one_or_null Other never field one) v (inr exact.value)
behind_null Other never field one some (Err Memory) exact = starved (IsNullOr Other field) (one_or_null Other never field one)
behind_null Other never field one some (Err Form) exact = no_form (IsNullOr Other field) (one_or_null Other never field one) (λ v h. none v h exact.error)
  where
    none : (v : Value) → IsNullOr Other field v → (Form ≡ Memory) ⊎ IsFormFault (Other field) Form → ⊥
    none v h (inl e) = cc e
    none v (inl h) (inr f) = some h.0
    none v (inr h) (inr f) = f.1 v h

pub null_read : (Other : List ℕ → Value → Type 0) → ((v : Value) → Other [] v → ⊥) → (field : List ℕ) → IsOne (Other field) → (length field == 0) ≡ true
    → ReadsField (IsNullOr Other field) (Ok Null)
null_read Other never [] one e = is_read (IsNullOr Other []) (one_or_null Other never [] one) Null (inl (refl, refl))
null_read Other never (b ∷ field) one e = absurd (let none : length (b ∷ field) ≡ 0 = eqb-true (length (b ∷ field)) 0 e in omega arith)

pub not_empty : (field : List ℕ) → (length field == 0) ≡ false → field ≢ []
not_empty [] e = absurd (false≢true (sym e))
not_empty (b ∷ field) e = λ same. cc same

pub no_int : (v : Value) → IsIntField [] v → ⊥
no_int v h = none_spelled h.0 h.1

pub no_marked_text : (v : Value) → IsMarkedText [] v → ⊥
no_marked_text v h = cc h.1

pub no_marked_blob : (v : Value) → IsMarkedBlob [] v → ⊥
no_marked_blob v h = cc h.2
