-- An opened journal goes on at its gate.
use Rattle.std.proofs.Common.{◌≡◌, ◌≢◌, ℕ, ◌≤◌, ◌<◌, ◌+◌, false, IsTrue, List, [], ◌∷◌, length, get_or, take, drop, refl, sym, ◌∙◌, arith}
use Rattle.std.specs.Prelude.{⊤}
use Rattle.std.proofs.lemmas.List.{length-take-le}
use Rattle.shadow_keeper.specs.Keeping.{tables_of as map_of}
use Rattle.journal_disk.specs.Disk.{Only}
use Rattle.journal_format.specs.Fronts.{Leads}
use Rattle.journal_format.proofs.GateLaws.{at_gate}
use Rattle.journal_writes.specs.Moments.{AllAre}
use Rattle.journal_writes.specs.Gates.{Stands}
use Rattle.journal_replay.specs.Opening.{OpenedAs}
use Rattle.journal_replay.specs.declared.follow.Opened.{Opened}
use Rattle.journal_replay.specs.declared.follow.Opened.TheVariants as opened
use Rattle.journal_batches.specs.Stopping.{IsKept}

no_attempt : {A : Type 0} → IsTrue false → A
no_attempt e = absurd cc

pub opened_kept : (files : List ℕ → Type 0) (file : List ℕ) (r : Opened)
    → OpenedAs (λ gate number entries. gate < length file) (λ _. ⊤) ⊤ ⊤ r
    → OpenedAs (λ gate number entries. get_or file gate 0 ≢ 1) (λ _. ⊤) ⊤ ⊤ r
    → OpenedAs (λ gate number entries. Leads (take gate file) number (map_of entries)) (λ _. ⊤) ⊤ ⊤ r
    → OpenedAs (λ _ _ _. Only file files) (λ _. ⊤) ⊤ ⊤ r
    → OpenedAs (λ gate number entries. (kept : IsKept files gate number false) × (kept.tables ≡ map_of entries)) (λ _. ⊤) ⊤ ⊤ r
opened_kept files file (opened.Ready gate number tables) within shut leads only =
    let stands : AllAre (Stands (take gate file)) files =
    λ c now. (get_or file gate 0, drop (gate + 1) file, shut, only c now ∙ at_gate file gate (get_or file gate 0) within refl) in
    (record { front = take gate file; tail = []; tables = map_of tables.entries; place = sym (length-take-le gate file (omega (arith, within))); leads = leads; rests = stands; attempt = λ e. no_attempt e }, refl)
opened_kept files file (opened.Damaged place) within shut leads only = leads
opened_kept files file opened.Failed within shut leads only = leads
opened_kept files file opened.Memory within shut leads only = leads
