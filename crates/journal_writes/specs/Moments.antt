-- What a stop leaves over several calls of a disk.
use Rattle.std.specs.Prelude.{◌⊎◌, ℕ, ◌≤◌, List}
use Rattle.journal_disk.specs.Disk.{Torn}

-- A stop since a moment before the calls may have left what it might have left before them, or a file that meets the test.
pub record LeavesOnly {D : Type 0} (moment : D → ℕ) (left_since : D → ℕ → List ℕ → Type 0) (old new : D) (Meets : List ℕ → Type 0) : Type 0 where
  pub later : moment old ≤ moment new
  pub before : (t : ℕ) (c : List ℕ) → t ≤ moment old → left_since new t c → left_since old t c ⊎ Meets c

-- one of these files after a write of n bytes at the place that a stop cuts short
abbrev pub TornFrom : (List ℕ → Type 0) → ℕ → ℕ → List ℕ → Type 0
TornFrom files at n c = (d : List ℕ) × files d × Torn at n d c

-- each of these files meets the test
abbrev pub AllAre : (List ℕ → Type 0) → (List ℕ → Type 0) → Type 0
AllAre Meets files = (c : List ℕ) → files c → Meets c
