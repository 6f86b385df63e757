-- The tables up to a gate, and the tables that a stop leaves.
use Rattle.std.specs.Prelude.{◌≡◌, ◌⊎◌, ℕ, ◌+◌, Bool, IsTrue, List, [], ◌∷◌, ◌++◌, take, length, Option, Result, Ok, Err}
use Rattle.shadow_records.specs.Keys.{Tables, no_records}
use Rattle.journal_disk.specs.History.{put}
use Rattle.journal_writes.specs.Moments.{AllAre}
use Rattle.journal_writes.specs.Gates.{Rests}
use Rattle.journal_format.specs.Reading.{tables_of, shown}
use Rattle.journal_format.specs.Fronts.{Leads}

-- the tables, or none where the journal is damaged
abbrev pub tables_or_none : Result Tables ℕ → Tables
tables_or_none (Ok tables) = tables
tables_or_none (Err place) = no_records

-- the tables of a journal that ends at this gate
abbrev pub tables_up_to : List ℕ → ℕ → Tables
tables_up_to file gate = tables_or_none (tables_of (take gate file ++ 0 ∷ []))

-- What a file that a stop leaves gives; and where the gate is uncertain, what the file that a read gives would give with any byte in the gate's place.
abbrev pub Shows : (List ℕ → Type 0) → List ℕ → ℕ → Bool → Option Tables → Type 0
Shows files file gate uncertain left =
    ((c : List ℕ) × files c × (shown c ≡ left)) ⊎ (IsTrue uncertain × ((value : ℕ) × (shown (put file gate (value ∷ [])) ≡ left)))

-- the same for the files that a stop since a moment may have left
abbrev pub ShowsSince : (ℕ → List ℕ → Type 0) → (List ℕ → Type 0) → List ℕ → ℕ → Bool → ℕ → Option Tables → Type 0
ShowsSince since files file gate uncertain moment left = ((c : List ℕ) × since moment c × (shown c ≡ left)) ⊎ Shows files file gate uncertain left

-- the block behind an uncertain gate, which gives tables too
pub record Attempt (front : List ℕ) (number : ℕ) (tail : List ℕ) : Type 0 where
  pub block : List ℕ
  pub rest : List ℕ
  pub tables : Tables
  pub parts : tail ≡ block ++ 0 ∷ rest
  pub leads : Leads (front ++ 1 ∷ block) (number + 1) tables

-- each of these files goes on at the gate, behind the same bytes
pub record IsKept (files : List ℕ → Type 0) (gate number : ℕ) (uncertain : Bool) : Type 0 where
  pub front : List ℕ
  pub tail : List ℕ
  pub tables : Tables
  pub place : gate ≡ length front
  pub leads : Leads front number tables
  pub rests : AllAre (Rests uncertain front tail) files
  pub attempt : IsTrue uncertain → Attempt front number tail
