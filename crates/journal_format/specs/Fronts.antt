-- What the bytes before a gate stand for.
use Rattle.std.specs.Prelude.{◌≡◌, ◌≢◌, ℕ, ◌+◌, ◌<◌, ◌≤◌, ◌^◌, List, [], ◌∷◌, ◌++◌, length, Ok, ⊤}
use Rattle.std.specs.FinMap.{empty}
use Rattle.vec_base.specs.declared.shadow.Change.{Change}
use Rattle.shadow_records.specs.Batches.{applied, AllApply}
use Rattle.shadow_records.specs.Keys.{Tables}
use Rattle.journal_format.specs.Format.{body_bytes, AreWhole}
use Rattle.journal_format.specs.Reading.{commits_of, batches_from, with_earlier, replayed}

-- The bytes before a gate. They hold batches behind open gates, which give the tables; the next batch is to have the number n. Whatever stands from
-- the gate on, reading goes on there.
pub record Leads (front : List ℕ) (n : ℕ) (tables : Tables) : Type 0 where
  pub batches : List (List Change)
  pub made : tables ≡ replayed batches empty
  pub count : n ≤ length front
  pub begun : 16 ≤ length front
  pub shut : (gate : ℕ) → gate ≢ 1 → commits_of (front ++ gate ∷ []) ≡ Ok batches
  pub goes_on : (gate : ℕ) (rest : List ℕ) → 17 ≤ length front + length rest
      → commits_of (front ++ gate ∷ rest) ≡ with_earlier batches (batches_from (length front) (gate ∷ rest) n tables)

-- Batches, the first of them with the number n: the numbers and lengths have eight bytes, the changes have bytes of their own, and each applies where
-- its turn comes.
abbrev pub AreCommits : ℕ → Tables → List (List Change) → Type 0
AreCommits n tables [] = ⊤
AreCommits n tables (batch ∷ batches) =
    (n < 2 ^ 64) × (length (body_bytes n batch) < 2 ^ 64) × AreWhole batch × AllApply batch tables
    × AreCommits (n + 1) (applied batch tables) batches
