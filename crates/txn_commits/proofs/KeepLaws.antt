-- One commit to a keeper.
use Rattle.std.proofs.Common.{◌≡◌, ◌⊎◌, ◌≤◌, Bool, true, false, List, Option, Some, inl, inr, refl, sym, ◌∙◌, subst, arith, IsTrue}
use Rattle.std.proofs.lemmas.Bool.{false≢true}
use Rattle.vec_base.specs.declared.shadow.Change.{Change}
use Rattle.row_model.specs.Valid.{IsValidCatalog}
use Rattle.shadow_keeper.specs.Keeping.{Adds, LeftAfter, LeftOpen, Makes}
use Rattle.shadow_keeper.specs.declared.keeper.Kept.{Kept}
use Rattle.shadow_keeper.specs.declared.keeper.Kept.TheVariants.{Done, Failed, Memory}
use Rattle.shadow_records.specs.Batches.{applied}
use Rattle.shadow_records.specs.Keys.{Tables}
use Rattle.table_version.specs.Versions.{VersionState}
use Rattle.txn_commits.specs.Keeping.{KeepsNext, Meanings, told_stops}
use Rattle.txn_commits.specs.Outcomes.{commit_as}
use Rattle.txn_commits.specs.Standing.{ArePlaced, Stands}
use Rattle.txn_commits.specs.Stops.{LeftNow}
use Rattle.txn_commits.proofs.StandLaws.{stands}
use Rattle.version_shelf.specs.Numbers.{catalog_of}
use Rattle.version_shelf.specs.Records.{HoldsRecords, TurnsAll}

-- what is known of both catalogs, and of the batch between them
pub record IsBetween (old next : List (Option VersionState)) : Type 0 where
  pub old_placed : ArePlaced old
  pub next_placed : ArePlaced next
  pub old_valid : IsValidCatalog (catalog_of old)
  pub next_valid : IsValidCatalog (catalog_of next)

-- nothing was handed to the keeper
pub starved : {K : Type 0} (M : Meanings K) (old next : List (Option VersionState)) (k : K) → (IsTrue (M.tells k) → HoldsRecords (M.tables k) old) → KeepsNext M old next k k Memory
starved M old next k holds = record {
  holds = holds;
  told = refl;
  leaves = record { later = omega arith; during = λ moment left le is. inl is; now = λ left is. is };
}

module _ {K : Type 0} (M : Meanings K) (old next : List (Option VersionState)) (before after : K) (changes : List Change) (is : IsBetween old next)
    (turns : TurnsAll old next changes) (told : M.tells after ≡ M.tells before) (clock : M.stops.clock before ≤ M.stops.clock after)
    (has : IsTrue (M.tells before) → HoldsRecords (M.tables before) old)
    (adds : IsTrue (M.tells before) → Adds M.stops before after (λ left. M.stops.now before left ⊎ (left ≡ Some (applied changes (M.tables before))))) where
  made_holds : IsTrue (M.tells before) → HoldsRecords (applied changes (M.tables before)) next
  made_holds t = (turns (M.tables before) (has t)).1

  before_tells : IsTrue (M.tells after) → IsTrue (M.tells before)
  before_tells t = sym told ∙ t

  new_stands : IsTrue (M.tells before) → (left : Option Tables) → left ≡ Some (applied changes (M.tables before)) → Stands left (catalog_of next)
  new_stands t left e = subst (λ (l : Option Tables). Stands l (catalog_of next)) (sym e) (stands (applied changes (M.tables before)) next is.next_placed is.next_valid (made_holds t))

  old_stands : IsTrue (M.tells before) → (left : Option Tables) → left ≡ Some (M.tables before) → Stands left (catalog_of old)
  old_stands t left e = subst (λ (l : Option Tables). Stands l (catalog_of old)) (sym e) (stands (M.tables before) old is.old_placed is.old_valid (has t))

  adds_stand : Adds (told_stops M) before after (λ left. (IsTrue (M.tells before) × M.stops.now before left) ⊎ Stands left (catalog_of next))
  adds_stand moment left le s =
      let told_before = before_tells s.0 in
      elim (adds told_before moment left le s.1) [
        | inl earlier ↦ inl (told_before, earlier)
        | inr (inl now) ↦ inr (inl (told_before, now))
        | inr (inr made) ↦ inr (inr (new_stands told_before left made))
      ]

  open_stands : (b : Bool) → M.tells before ≡ b → (IsTrue (M.tells before) → LeftOpen (M.stops.now before) (M.tables before) (applied changes (M.tables before)) (M.stops.now after)) →
      LeftNow (Some (commit_as Failed (catalog_of next))) (λ left. IsTrue (M.tells before) × M.stops.now before left) (catalog_of old) (λ left. IsTrue (M.tells after) × M.stops.now after left)
  open_stands false e attempt = inl (λ left n. absurd (false≢true (sym e ∙ before_tells n.0)))
  open_stands true e attempt =
      elim (attempt e) [
        | inl within ↦ inl (λ left n. (e, within left n.1))
        | inr within ↦ inr (λ left n. elim (within left n.1) [
          | inl is_old ↦ inl (old_stands e left is_old)
          | inr is_new ↦ inr (new_stands e left is_new)
        ])
      ]

  pub keeps : (answer : Kept) → (IsTrue (M.tells before) → Makes (M.tables before) (applied changes (M.tables before)) (M.tables after) answer) →
      (IsTrue (M.tells before) → LeftAfter (M.stops.now before) (M.tables before) (applied changes (M.tables before)) (M.stops.now after) answer) → KeepsNext M old next before after answer
  keeps Done made left = record {
    holds = λ t. subst (λ (m : Tables). HoldsRecords m next) (sym (made (before_tells t))) (made_holds (before_tells t));
    told = told;
    leaves = record { later = clock; during = adds_stand; now = λ l n. new_stands (before_tells n.0) l (left (before_tells n.0) l n.1) };
  }
  keeps Failed made left = record {
    holds = λ t. subst (λ (m : Tables). HoldsRecords m old) (sym (made (before_tells t))) (has (before_tells t));
    told = told;
    leaves = record { later = clock; during = adds_stand; now = open_stands (M.tells before) refl left };
  }
  keeps Memory made left = record {
    holds = λ t. subst (λ (m : Tables). HoldsRecords m old) (sym (made (before_tells t))) (has (before_tells t));
    told = told;
    leaves = record { later = clock; during = adds_stand; now = λ l n. (before_tells n.0, left (before_tells n.0) l n.1) };
  }
