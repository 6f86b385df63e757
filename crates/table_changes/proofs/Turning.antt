-- From all keys of a table to its records.
use Rattle.std.proofs.Common.{◌≡◌, ℕ, List, [], ◌==◌, Bool, true, false, Option, refl, ◌∙◌}
use Rattle.std.specs.FinMap.{get}
use Rattle.std.proofs.lemmas.Bool.{eqb-true, eq-eqb, ne_eqb}
use Rattle.vec_base.specs.declared.shadow.Change.{Change}
use Rattle.vec_base.specs.declared.shadow.ShadowKey.{ShadowKey}
use Rattle.shadow_keeper.specs.Keeping.{AreShort}
use Rattle.shadow_records.specs.PlacedTables.{PlacedTable}
use Rattle.shadow_records.specs.StandsFor.{record_in}
use Rattle.shadow_records.specs.inner.OneKey.{AllApplyAt}
use Rattle.shadow_records.proofs.BatchLaws.{get-applied, all_apply}
use Rattle.table_changes.specs.Turning.{Turns}
use Rattle.table_changes.specs.inner.Steps.{Gives, TurnsKeys}

-- the changes turn the records of a number where they turn all its keys
pub turns-all : (number : ℕ) (older newer : Option PlacedTable) (changes : List Change) → TurnsKeys (λ key. key.table == number) older newer [] changes → Turns number older newer changes
turns-all number older newer changes turned tables are = record {
  apply = all_apply changes tables (λ key. fits key (key.table == number) refl);
  those = λ key same. get-applied changes tables key ∙ (own key (eq-eqb key.table number same)).body;
  others = λ key other. get-applied changes tables key ∙ (foreign key (ne_eqb key.table number other)).body;
}
  where
    start : (key : ShadowKey) (body : Option (List ℕ)) → get tables key ≡ body → Gives [] key (get tables key) body
    start key body same = record { applies = tt; body = same }

    own : (key : ShadowKey) → (key.table == number) ≡ true → Gives changes key (get tables key) (record_in newer key)
    own key is = turned.these key (get tables key) is (start key (record_in older key) (are key (eqb-true key.table number is)))

    foreign : (key : ShadowKey) → (key.table == number) ≡ false → Gives changes key (get tables key) (get tables key)
    foreign key is = turned.others key (get tables key) (get tables key) is (start key (get tables key) refl)

    fits : (key : ShadowKey) (b : Bool) → (key.table == number) ≡ b → AllApplyAt changes key (get tables key)
    fits key true e = (own key e).applies
    fits key false e = (foreign key e).applies

pub short-all : (number : ℕ) (older newer : Option PlacedTable) (changes : List Change) → TurnsKeys (λ key. key.table == number) older newer [] changes → AreShort changes
short-all number older newer changes turned = turned.short tt
