-- The records of a table's name, columns and top, beside each table whose records they are.
use Rattle.std.proofs.Common.{◌≡◌, ℕ, ℤ, pos, cond, List, [], refl, sym, ap, ◌∙◌, Some, None}
use Rattle.std.specs.Prelude.{is_some}
use Rattle.std.specs.declared.option.Option.{Option}
use Rattle.std.proofs.lemmas.Bool.{eq-eqb}
use Rattle.record_bodies.specs.ReadRows.{body_among}
use Rattle.row_model.specs.declared.schema.Schema.{Schema}
use Rattle.shadow_records.specs.Cells.{number_bytes}
use Rattle.shadow_records.specs.Keys.{key_of}
use Rattle.shadow_records.specs.PlacedTables.{PlacedTable, IsPlaced}
use Rattle.shadow_records.specs.declared.kinds.TheConstants.{INFO_RECORDS}
use Rattle.table_attach.specs.Attaching.{Records, AreRecordsOf, StandForNone}
use Rattle.table_attach.specs.inner.Filling.{IsOpened}
use Rattle.table_attach.specs.inner.Info.{CanBeTop, IsInfo, IsNoInfo, IsNoTop, IsTop, info_bytes}

module _ (number : ℕ) (records : Records) where
  -- the body at 0 or 1
  abbrev found : ℕ → Option (List ℕ)
  found a = body_among records (key_of number INFO_RECORDS (pos a) (pos 0))

  module _ (v : PlacedTable) (placed : IsPlaced v) (are : AreRecordsOf number v records) where
    own_info : found 0 ≡ Some (info_bytes v.name v.schema)
    own_info = are (key_of number INFO_RECORDS (pos 0) (pos 0)) ∙ ap (λ b. cond b (Some (info_bytes v.name v.schema)) None) (eq-eqb number number refl)

    own_top : found 1 ≡ Some (number_bytes v.top)
    own_top = are (key_of number INFO_RECORDS (pos 1) (pos 0)) ∙ ap (λ b. cond b (Some (number_bytes v.top)) None) (eq-eqb number number refl)

    can_be_top : CanBeTop v.top
    can_be_top = record { from_zero = placed.valid.from_zero; last = placed.valid.last }

    body_is : (a b : List ℕ) → Some a ≡ Some b → a ≡ b
    body_is a b e = cc

    the_info : (body : List ℕ) → found 0 ≡ Some body → info_bytes v.name v.schema ≡ body
    the_info body is = body_is (info_bytes v.name v.schema) body (sym own_info ∙ is)

    the_top : (body : List ℕ) → found 1 ≡ Some body → number_bytes v.top ≡ body
    the_top body is = body_is (number_bytes v.top) body (sym own_top ∙ is)

  pub no_info : found 0 ≡ None → StandForNone number records
  no_info none v placed are = let never : None ≡ Some (info_bytes v.name v.schema) = sym none ∙ own_info v placed are in absurd cc

  pub no_top : found 1 ≡ None → StandForNone number records
  no_top none v placed are = let never : None ≡ Some (number_bytes v.top) = sym none ∙ own_top v placed are in absurd cc

  pub bad_info : (body : List ℕ) → found 0 ≡ Some body → IsNoInfo body → StandForNone number records
  bad_info body is none v placed are = none v.name v.schema placed.name placed.valid.schema (the_info v placed are body is)

  pub bad_top : (body : List ℕ) → found 1 ≡ Some body → IsNoTop body → StandForNone number records
  bad_top body is none v placed are = none v.top (can_be_top v placed are) (the_top v placed are body is)

  pub opened : (info body name : List ℕ) (schema : Schema) (top : ℤ) (table : PlacedTable) → found 0 ≡ Some info → found 1 ≡ Some body → IsInfo info name schema → IsTop body top →
      table ≡ record { name = name; schema = schema; top = top; rows = [] } → IsOpened number records table
  opened info body name schema top table info_is top_is told topped same = record {
    rows = ap (λ (t : PlacedTable). t.rows) same;
    info = ap is_some info_is;
    top = ap is_some top_is;
    same_name = λ v placed are. ap (λ (t : PlacedTable). t.name) same ∙ told.only_name v.name v.schema placed.valid.schema (the_info v placed are info info_is);
    same_schema = λ v placed are. ap (λ (t : PlacedTable). t.schema) same ∙ told.only_schema v.name v.schema placed.valid.schema (the_info v placed are info info_is);
    same_top = λ v placed are. ap (λ (t : PlacedTable). t.top) same ∙ topped.only v.top (can_be_top v placed are) (the_top v placed are body top_is);
  }
