-- A table that is filled from records: each row is one that the records show, and each row's record has its row.
use Rattle.std.proofs.Common.{◌≡◌, ℕ, ℤ, Bool, true, false, List, [], ◌∷◌, refl, sym, ap, ◌∙◌, subst, ◌⊎◌, inl, inr, Some, None}
use Rattle.std.specs.Prelude.{is_some}
use Rattle.std.specs.List.{AllByRecursion}
use Rattle.std.specs.declared.option.Option.{Option}
use Rattle.vec_base.specs.declared.shadow.ShadowKey.{ShadowKey}
use Rattle.record_bodies.specs.ReadRows.{body_among, decoded, decoded_from}
use Rattle.row_model.specs.declared.schema.Schema.{Schema}
use Rattle.shadow_records.specs.PlacedTables.{PlacedRow, PlacedTable, row_of}
use Rattle.table_version.specs.PlacedRows.{table_with}
use Rattle.table_attach.specs.Attaching.{Records}
use Rattle.table_attach.specs.inner.Filling.{Fills, Takes, is_row_key}
use Rattle.table_attach.proofs.KeyFacts.{IsOwn, row_key-is}
use Rattle.table_attach.proofs.RowFacts.{AreAmong, of-grown, of-more, of-new}

module _ (number : ℕ) (records : Records) (schema : Schema) where
  abbrev shows : ℤ → Option PlacedRow
  shows i = decoded (body_among records) number schema.columns i

  -- rows of the schema, each of which the records show
  pub record AreShown (table : PlacedTable) : Type 0 where
    pub schema_is : table.schema ≡ schema
    pub each : (i : ℤ) (p : PlacedRow) → row_of table.rows i ≡ Some p → shows i ≡ Some p

  -- what a row's record shows is what is shown under its rowid
  shown_here : (table : PlacedTable) (r : ShadowKey × List ℕ) (p : PlacedRow) → table.schema ≡ schema → IsOwn records r → is_row_key number r.0 ≡ true →
      decoded_from (body_among records) number table.schema.columns r.0.a (Some r.1) ≡ Some p → shows r.0.a ≡ Some p
  shown_here table r p same own key shown =
      ap (decoded_from (body_among records) number schema.columns r.0.a) (ap (body_among records) (sym (row_key-is number r.0 key)) ∙ own)
      ∙ ap (λ (s : Schema). decoded_from (body_among records) number s.columns r.0.a (Some r.1)) (sym same) ∙ shown

  record IsStep (table new : PlacedTable) (r : ShadowKey × List ℕ) : Type 0 where
    pub shown : AreShown new
    pub grows : AreAmong table.rows new.rows
    pub found : is_row_key number r.0 ≡ true → is_some (row_of new.rows r.0.a) ≡ true

  step : (own_rowid : (i : ℤ) (p : PlacedRow) → shows i ≡ Some p → p.row.rowid ≡ i) (table new : PlacedTable) (r : ShadowKey × List ℕ) → AreShown table → IsOwn records r → Takes number records table r new → IsStep table new r
  step own_rowid table new r shown own takes = by_key (is_row_key number r.0) refl where
    by_key : (b : Bool) → is_row_key number r.0 ≡ b → IsStep table new r
    by_key false other =
        subst (λ t. IsStep table t r) (sym (takes.other other))
        (record { shown = shown; grows = λ i p is. is; found = λ key. let never : true ≡ false = sym key ∙ other in absurd cc })
    by_key true key =
        let taken = takes.taken key in
        let p = taken.row in
        let here = shown_here table r p shown.schema_is own key taken.shown in
        let rowid = own_rowid r.0.a p here in
        let fresh = taken.fits.fresh in
        subst (λ t. IsStep table t r) (sym taken.table_is) (record {
          shown = record {
            schema_is = shown.schema_is;
            each = λ i q is. new_or_old i q p here rowid (of-more p table.rows fresh i q is);
          };
          grows = of-grown p table.rows fresh;
          found = λ k. ap is_some (ap (row_of (table_with table p).rows) (sym rowid) ∙ of-new p table.rows fresh);
        })
      where
        new_or_old : (i : ℤ) (q p : PlacedRow) → shows r.0.a ≡ Some p → p.row.rowid ≡ r.0.a → ((i ≡ p.row.rowid) × (q ≡ p)) ⊎ (row_of table.rows i ≡ Some q) → shows i ≡ Some q
        new_or_old i q p here rowid (inl both) = ap shows (both.0 ∙ rowid) ∙ here ∙ ap Some (sym both.1)
        new_or_old i q p here rowid (inr old) = shown.each i q old

  pub record AreFilled (table new : PlacedTable) (rest : Records) : Type 0 where
    pub shown : AreShown new
    pub grows : AreAmong table.rows new.rows
    pub found : AllByRecursion (λ (r : ShadowKey × List ℕ). is_row_key number r.0 ≡ true → is_some (row_of new.rows r.0.a) ≡ true) rest

  still_there : (a b : List PlacedRow) → AreAmong a b → (i : ℤ) → is_some (row_of a i) ≡ true → is_some (row_of b i) ≡ true
  still_there a b among i there = at (row_of a i) refl there where
    at : (o : Option PlacedRow) → row_of a i ≡ o → is_some o ≡ true → is_some (row_of b i) ≡ true
    at None is never = absurd cc
    at (Some p) is there = ap is_some (among i p is)

  pub filled : (own_rowid : (i : ℤ) (p : PlacedRow) → shows i ≡ Some p → p.row.rowid ≡ i) (rest : Records) (table new : PlacedTable) → AllByRecursion (IsOwn records) rest → AreShown table → Fills number records table rest new → AreFilled table new rest
  filled own_rowid [] table new own shown same =
      subst (λ t. AreFilled table t []) (sym same) (record { shown = shown; grows = λ i p is. is; found = tt })
  filled own_rowid (r ∷ rest) table new own shown (middle, both) =
      let one = step own_rowid table middle r shown own.0 both.0 in
      let more = filled own_rowid rest middle new own.1 one.shown both.1 in
      record {
        shown = more.shown;
        grows = λ i p is. more.grows i p (one.grows i p is);
        found = ((λ key. still_there middle.rows new.rows more.grows r.0.a (one.found key)), more.found);
      }
