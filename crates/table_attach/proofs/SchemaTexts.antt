-- A text is the canonical one of at most one schema, which it declares.
use Rattle.std.proofs.Common.{◌≡◌, ℕ, List, refl, sym}
use Rattle.record_bodies.specs.OneText.{OneText}
use Rattle.vec_base.specs.declared.refusal.Refusal.{Refusal}
use Rattle.row_model.specs.CanonicalColumns.{canonical_columns}
use Rattle.row_model.specs.Schemas.{IsValidSchema}
use Rattle.row_model.specs.declared.schema.Schema.{Schema}
use Rattle.vec0_columns.specs.ColumnReading.{Declares, IsRefusal}
use Rattle.vec0_columns.proofs.OneAnswer.{one_schema, never_both}
use Rattle.vec0_columns.proofs.RoundTrip.{text_declares}

pub declared_only : (text : List ℕ) (schema : Schema) → Declares text schema → (other : Schema) → IsValidSchema other → canonical_columns other ≡ text → schema ≡ other
declared_only text schema declares other valid e = one_schema text schema other declares (text_declares text other (sym e) valid)

pub refused_none : (text : List ℕ) (refusal : Refusal) → IsRefusal text refusal → (other : Schema) → IsValidSchema other → canonical_columns other ≡ text → ⊥
refused_none text refusal is other valid e = never_both text other refusal (text_declares text other (sym e) valid) is

pub one_text : OneText
one_text schema other valid fine e = declared_only (canonical_columns other) schema (text_declares (canonical_columns other) schema (sym e) valid) other fine refl
