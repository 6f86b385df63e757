-- An engine over a keeper that has records.
use Rattle.std.proofs.Common.{◌≡◌, Option, Some, IsTrue, refl, sym, ap, ◌∙◌, subst}
use Rattle.row_model.specs.Machine.{first_state}
use Rattle.row_model.specs.Valid.{IsValidCatalog, IsValidState}
use Rattle.row_model.specs.declared.row.Catalog.{Catalog}
use Rattle.row_model.specs.declared.state.State.{State}
use Rattle.shadow_keeper.specs.Keeping.{Within}
use Rattle.shadow_records.specs.Keys.{Tables}
use Rattle.shadow_records.specs.StandsFor.{StandsFor}
use Rattle.txn_commits.specs.Keeping.{Meanings}
use Rattle.txn_commits.specs.Standing.{Stands}
use Rattle.txn_core.specs.Engines.{At}
use Rattle.txn_core.specs.Loads.{Loads}
use Rattle.txn_core.specs.Starts.{Opens}

-- the first state of a valid catalog is valid
pub first_valid : (catalog : Catalog) (state : State) → IsValidCatalog catalog → state ≡ first_state catalog → IsValidState state
first_valid catalog state valid is = subst IsValidState (sym is) (record { committed = valid; sessions = tt; own_ids = refl; ids = refl; writers = refl })

module _ {K : Type 0} (M : Meanings K) where
  -- an engine over a keeper whose tables stand for the catalog
  pub opens : (keeper : K) (engine : At K) (catalog : Catalog) (tables : Tables) → engine.state ≡ first_state catalog → engine.keeper ≡ keeper → StandsFor tables catalog → (IsTrue (M.tells keeper) → M.tables keeper ≡ tables) →
      (IsTrue (M.tells keeper) → Within (M.stops.now keeper) (λ left. left ≡ Some (M.tables keeper))) → Opens M keeper engine
  opens keeper engine catalog tables first same stands are settled = record {
    catalog = catalog;
    first = first;
    stands = λ told. stand told;
    settled = λ left is. (
        let told : IsTrue (M.tells keeper) = subst (λ (k : K). IsTrue (M.tells k)) same is.0 in
        let now : M.stops.now keeper left = subst (λ (k : K). M.stops.now k left) same is.1 in
        subst (λ (o : Option Tables). Stands o catalog) (sym (settled told left now)) (stand told));
  } where
    stand : IsTrue (M.tells keeper) → StandsFor (M.tables keeper) catalog
    stand told = subst (λ (t : Tables). StandsFor t catalog) (sym (are told)) stands

  -- what is opened after the records were read is opened over the keeper as it was
  pub opens_since : (old new : K) (engine : At K) → Loads M old new → Opens M new engine → Opens M old engine
  opens_since old new engine loads opens = record {
    catalog = opens.catalog;
    first = opens.first;
    stands = λ told. subst (λ (t : Tables). StandsFor t opens.catalog) (loads.tables told) (opens.stands (subst IsTrue (sym loads.told) told));
    settled = opens.settled;
  }

  pub settled_since : (old new : K) → Loads M old new → (IsTrue (M.tells old) → Within (M.stops.now old) (λ left. left ≡ Some (M.tables old))) → IsTrue (M.tells new) → Within (M.stops.now new) (λ left. left ≡ Some (M.tables new))
  settled_since old new loads settled told left is =
      let before : IsTrue (M.tells old) = subst IsTrue loads.told told in
      settled before left (loads.within left is) ∙ ap (λ (t : Tables). Some t) (sym (loads.tables before))
