-- An engine without tables.
use Rattle.std.proofs.Common.{◌≡◌, ℕ, zero, suc, List, [], map, Option, None, refl, sym, ap, subst, ◌∙◌}
use Rattle.std.specs.Prelude.{replicate, slice_index_or}
use Rattle.std.specs.FinMap.{get}
use Rattle.vec_base.specs.declared.limits.TheConstants.{MOST_TABLES}
use Rattle.vec_base.specs.declared.shadow.ShadowKey.{ShadowKey}
use Rattle.shadow_records.specs.Keys.{Tables}
use Rattle.shadow_records.specs.StandsFor.{record_in}
use Rattle.table_version.specs.Versions.{VersionState}
use Rattle.row_model.specs.Machine.{first_state, no_tables}
use Rattle.row_model.specs.Valid.{IsValidState}
use Rattle.row_model.specs.declared.row.Named.{Named}
use Rattle.row_model.specs.declared.state.State.{State}
use Rattle.version_shelf.specs.Numbers.{catalog_of, numbered, under}
use Rattle.version_shelf.specs.OnShelf.{at_place, shown}
use Rattle.version_shelf.specs.Records.{HoldsRecords, table_in}

none-shown : (shelf : List (Option VersionState)) (n i : ℕ) → slice_index_or (map (at_place shelf) (replicate n None)) i None ≡ None
none-shown shelf zero i = refl
none-shown shelf (suc n) zero = refl
none-shown shelf (suc n) (suc i) = none-shown shelf n i

none-under : (shelf : List (Option VersionState)) (n number : ℕ) → under number (shown shelf (replicate n None)) ≡ None
none-under shelf n zero = refl
none-under shelf n (suc i) = none-shown shelf n i

pub no-records : (tables : Tables) (shelf : List (Option VersionState)) (places : List (Option ℕ)) → places ≡ replicate MOST_TABLES None → ((key : ShadowKey) → get tables key ≡ None) → HoldsRecords tables (shown shelf places)
no-records tables shelf places none empty key =
    empty key ∙ sym (ap (λ (v : Option VersionState). record_in (table_in v) key) (ap (λ (p : List (Option ℕ)). under key.table (shown shelf p)) none ∙ none-under shelf MOST_TABLES key.table))

none-numbered : (shelf : List (Option VersionState)) (base n : ℕ) → numbered base (map (at_place shelf) (replicate n None)) ≡ []
none-numbered shelf base zero = refl
none-numbered shelf base (suc n) = none-numbered shelf (suc base) n

no-catalog : (shelf : List (Option VersionState)) (places : List (Option ℕ)) → places ≡ replicate MOST_TABLES None → catalog_of (shown shelf places) ≡ no_tables
no-catalog shelf places none = ap (λ (p : List (Option ℕ)). catalog_of (shown shelf p)) none ∙ ap (λ (l : List Named). record { tables = l }) (none-numbered shelf 1 MOST_TABLES)

no-tables-valid : IsValidState (first_state no_tables)
no-tables-valid = record {
  committed = record { numbers = refl; own_names = refl; names = refl; tables = tt; vectors = refl; sides = refl };
  sessions = tt;
  own_ids = refl;
  ids = refl;
  writers = refl;
}

-- a machine without tables is in the first state
pub first-valid : (state : State) (shelf : List (Option VersionState)) (places : List (Option ℕ)) → places ≡ replicate MOST_TABLES None → state ≡ first_state (catalog_of (shown shelf places)) → IsValidState state
first-valid state shelf places none is = subst IsValidState (sym (is ∙ ap first_state (no-catalog shelf places none))) no-tables-valid
