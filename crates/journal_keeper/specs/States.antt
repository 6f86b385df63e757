-- What a keeper over a journal holds.
use Rattle.std.specs.Prelude.{◌≡◌, ℕ, ℤ, ◌≤◌, ◌^◌, Bool, IsTrue, List, [], map, Option, Some, None, refl, ⊤}
use Rattle.std.specs.Coded.{Coded, code_by, coded×, coded_ℕ, coded_ℤ, coded_bool, coded_list, coded_option}
use Rattle.std.specs.List.{All}
use Rattle.std.specs.BTreeMap.Range.{IsLtBy}
use Rattle.vec_base.specs.declared.shadow.ShadowKey.{ShadowKey}
use Rattle.shadow_records.specs.Keys.{Tables, key_cmp}
use Rattle.journal_batches.specs.declared.places.Place.{Place}
use Rattle.journal_batches.specs.Stopping.{tables_up_to, Shows, ShowsSince, IsKept}

-- the disk, where its journal goes on, the records not yet given, the key given last, and whether the end was told
pub record State (D : Type 0) : Type 0 where
  pub disk : D
  pub place : Place
  pub left : List (ShadowKey × List ℕ)
  pub last : Option ShadowKey
  pub ended : Bool

abbrev pub coded_key : Coded ShadowKey
coded_key =
    code_by (ℕ × (ℕ × (ℤ × ℤ))) (coded× coded_ℕ (coded× coded_ℕ (coded× coded_ℤ coded_ℤ))) (λ k. (k.table, (k.kind, (k.a, k.b))))
    (λ p. record { table = p.0; kind = p.1.0; a = p.1.1.0; b = p.1.1.1 }) (λ _. refl)

abbrev pub coded_place : Coded Place
coded_place =
    code_by (ℕ × (ℕ × Bool)) (coded× coded_ℕ (coded× coded_ℕ coded_bool)) (λ p. (p.gate, (p.number, p.uncertain)))
    (λ p. record { gate = p.0; number = p.1.0; uncertain = p.1.1 }) (λ _. refl)

abbrev pub coded_state : {D : Type 0} → Coded D → Coded (State D)
coded_state {D} d =
    code_by (D × (Place × (List (ShadowKey × List ℕ) × (Option ShadowKey × Bool))))
    (coded× d (coded× coded_place (coded× (coded_list (coded× coded_key (coded_list coded_ℕ))) (coded× (coded_option coded_key) coded_bool))))
    (λ s. (s.disk, (s.place, (s.left, (s.last, s.ended)))))
    (λ p. record { disk = p.0; place = p.1.0; left = p.1.1.0; last = p.1.1.1.0; ended = p.1.1.1.1 }) (λ _. refl)

-- ---- what a keeper tells, by what its disk tells

-- the disk of a keeper
abbrev pub keeper_disk : {D : Type 0} → State D → D
keeper_disk state = state.disk

-- the tables of the batches before the gate
abbrev pub keeper_tables : {D : Type 0} → (D → List ℕ) → State D → Tables
keeper_tables reads state = tables_up_to (reads state.disk) state.place.gate

-- the tables that a stop now may leave
abbrev pub keeper_stopped : {D : Type 0} → (D → List ℕ → Type 0) → (D → List ℕ) → State D → Option Tables → Type 0
keeper_stopped may_leave reads state left = Shows (may_leave state.disk) (reads state.disk) state.place.gate state.place.uncertain left

-- the tables that a stop since a moment may have left
abbrev pub keeper_since : {D : Type 0} → (D → ℕ → List ℕ → Type 0) → (D → List ℕ → Type 0) → (D → List ℕ) → State D → ℕ → Option Tables → Type 0
keeper_since left_since may_leave reads state moment left =
    ShowsSince (left_since state.disk) (may_leave state.disk) (reads state.disk) state.place.gate state.place.uncertain moment left

-- ---- what is true of every keeper

-- all keys left are above the last
abbrev pub Above : Option ShadowKey → List (ShadowKey × List ℕ) → Type 0
Above None left = ⊤
Above (Some last) left = All (IsLtBy key_cmp last) (map (λ e. e.0) left)

pub record IsGood (told : Type 0) (files : List ℕ → Type 0) (place : Place) (left : List (ShadowKey × List ℕ)) (last : Option ShadowKey) (ended : Bool) : Type 0 where
  pub gate_fits : place.gate ≤ 2 ^ 40
  pub number_fits : place.number ≤ place.gate
  pub order : Above last left
  pub done : IsTrue ended → left ≡ []
  pub stands : told → IsKept files place.gate place.number place.uncertain
