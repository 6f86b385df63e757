-- What the bodies of a table's name, columns and top say.
use Rattle.std.proofs.Common.{◌≡◌, ℕ, ◌≤◌, ◌<◌, ℤ, pos, int_le, int_lt, FitsSigned, true, false, List, [], ◌∷◌, length, take, drop, refl, sym, ap, ap₂, ◌∙◌, arith, length-append}
use Rattle.std.specs.Int.{w64}
use Rattle.std.proofs.Math.Seq.{take-append_seam}
use Rattle.std.proofs.lemmas.Int.{ints}
use Rattle.vec_base.specs.Words.{is_name}
use Rattle.vec_base.specs.declared.limits.TheConstants.{LAST_ROWID}
use Rattle.row_model.specs.CanonicalColumns.{canonical_columns}
use Rattle.row_model.specs.Schemas.{IsValidSchema}
use Rattle.row_model.specs.declared.schema.Schema.{Schema}
use Rattle.record_bodies.specs.Bodies.{number_in}
use Rattle.record_bodies.proofs.CellLaws.{drop_seam}
use Rattle.record_bodies.proofs.OneTableLaws.{head_is}
use Rattle.record_bodies.proofs.ValueLaws.{number_back}
use Rattle.shadow_records.specs.Cells.{number_bytes}
use Rattle.table_attach.specs.inner.Info.{CanBeTop, IsInfo, IsNoInfo, IsNoTop, info_bytes}

-- ---- the name and the columns

-- a name behind its length, and what stands behind it
record IsSplit (size : ℕ) (rest name : List ℕ) (schema : Schema) : Type 0 where
  pub inside : size ≤ length rest
  pub name_is : name ≡ take size rest
  pub text_is : canonical_columns schema ≡ drop size rest

split : (size : ℕ) (rest name : List ℕ) (schema : Schema) → info_bytes name schema ≡ size ∷ rest → IsSplit size rest name schema
split size rest name schema e =
    let parts = head_is e in
    let long = length-append name (canonical_columns schema) in
    let whole = ap (λ (z : List ℕ). length z) parts.1 in
    record {
      inside = omega (arith, parts.0, long, whole);
      name_is = sym (take-append_seam name (canonical_columns schema)) ∙ ap₂ (λ n l. take n l) parts.0 parts.1;
      text_is = sym (drop_seam name (canonical_columns schema) (length name) refl) ∙ ap₂ (λ n l. drop n l) parts.0 parts.1;
    }

pub info_from : (size : ℕ) (rest name : List ℕ) (schema : Schema) → is_name name ≡ true → IsValidSchema schema → name ≡ take size rest →
    ((other : Schema) → IsValidSchema other → canonical_columns other ≡ drop size rest → schema ≡ other) → IsInfo (size ∷ rest) name schema
info_from size rest name schema named valid name_is only = record {
  name_is = named;
  valid = valid;
  only_name = λ other columns fine e. name_is ∙ sym (split size rest other columns e).name_is;
  only_schema = λ other columns fine e. only columns fine (split size rest other columns e).text_is;
}

pub empty : IsNoInfo []
empty name schema named valid e = absurd cc

pub too_short : (size : ℕ) (rest : List ℕ) → length rest < size → IsNoInfo (size ∷ rest)
too_short size rest less name schema named valid e = let inside = (split size rest name schema e).inside in absurd (omega (arith, inside))

pub unnamed : (size : ℕ) (rest : List ℕ) → is_name (take size rest) ≡ false → IsNoInfo (size ∷ rest)
unnamed size rest none name schema named valid e =
    let never : true ≡ false = sym named ∙ ap is_name (split size rest name schema e).name_is ∙ none in
    absurd cc

pub no_columns : (size : ℕ) (rest : List ℕ) → ((other : Schema) → IsValidSchema other → canonical_columns other ≡ drop size rest → ⊥) → IsNoInfo (size ∷ rest)
no_columns size rest none name schema named valid e = none schema valid (split size rest name schema e).text_is

-- ---- the top

top_fits : (top : ℤ) → CanBeTop top → FitsSigned w64 top
top_fits top can = between top can.from_zero can.last where
  between : (n : ℤ) → int_le (pos 0) n ≡ true → int_le n LAST_ROWID ≡ true → FitsSigned w64 n
  between n a b = grind (arith, ints)

pub one_top : (body : List ℕ) (other : ℤ) → CanBeTop other → number_bytes other ≡ body → number_in body ≡ other
one_top body other can e = ap number_in (sym e) ∙ number_back other (top_fits other can)

pub negative : (body : List ℕ) → int_lt (number_in body) (pos 0) ≡ true → IsNoTop body
negative body less top can e = never (number_in body) top (one_top body top can e) less can.from_zero where
  never : (n m : ℤ) → n ≡ m → int_lt n (pos 0) ≡ true → int_le (pos 0) m ≡ true → ⊥
  never n m same a b = grind (arith, ints)

-- other than eight bytes
pub no_eight : (body : List ℕ) → (length body ≡ 8 → ⊥) → IsNoTop body
no_eight body other top can e = other (ap (λ (z : List ℕ). length z) (sym e))
