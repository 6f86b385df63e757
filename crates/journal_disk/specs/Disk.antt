-- What the calls of a disk do to its bytes, and what a stop may leave between two syncs.
use Rattle.std.specs.Prelude.{◌≡◌, ◌⊎◌, ℕ, ◌+◌, ◌≤◌, max, List, ◌++◌, length, take, drop}
use Rattle.vec_base.specs.declared.source.ReadOutcome.{ReadOutcome}
use Rattle.vec_base.specs.declared.source.ReadOutcome.TheVariants as got
use Rattle.vec_base.specs.declared.sink.WriteOutcome.{WriteOutcome}
use Rattle.vec_base.specs.declared.sink.WriteOutcome.TheVariants as wrote
use Rattle.journal_disk.specs.declared.disk.Length.{Length}
use Rattle.journal_disk.specs.declared.disk.Length.TheVariants as len
use Rattle.journal_disk.specs.declared.disk.Synced.{Synced}
use Rattle.journal_disk.specs.declared.disk.Synced.TheVariants as synced

-- ---- bytes

-- the new bytes are the old ones with these bytes at this place
abbrev pub Holds : List ℕ → ℕ → List ℕ → List ℕ → Type 0
Holds old at bytes new = new ≡ take at old ++ bytes ++ drop (at + length bytes) old

-- after a write of n bytes that a stop cuts short: any bytes in the range and past the old end, the same elsewhere
pub record Torn (at n : ℕ) (old new : List ℕ) : Type 0 where
  pub before : take at new ≡ take at old
  pub after : drop (at + n) new ≡ drop (at + n) old
  pub no_shorter : length old ≤ length new
  pub no_longer : length new ≤ max (length old) (at + n)

-- ---- files that a stop may leave

-- each new one is an old one after a step
abbrev pub Follows : (List ℕ → List ℕ → Type 0) → (List ℕ → Type 0) → (List ℕ → Type 0) → Type 0
Follows step old new = (c : List ℕ) → new c → (d : List ℕ) × old d × step d c

-- this file and no other
abbrev pub Only : List ℕ → (List ℕ → Type 0) → Type 0
Only file images = (c : List ℕ) → images c → c ≡ file

-- each of these is one of those
abbrev pub Within : (List ℕ → Type 0) → (List ℕ → Type 0) → Type 0
Within these those = (c : List ℕ) → these c → those c

-- The clock goes on: a stop since a moment before may have left what it might have left up to the call, or what it may leave now.
pub record Elapses (before now : ℕ) (past since : ℕ → List ℕ → Type 0) (may_leave : List ℕ → Type 0) : Type 0 where
  pub later : before ≤ now
  pub nothing_else : (t : ℕ) (c : List ℕ) → t ≤ before → since t c → past t c ⊎ may_leave c
  pub keeps : (t : ℕ) (c : List ℕ) → t ≤ before → past t c → since t c

-- ---- of each answer what is said of it

abbrev pub GotWell : (ℕ → Type 0) → Type 0 → Type 0 → ReadOutcome → Type 0
GotWell Took End Failed (got.Took n) = Took n
GotWell Took End Failed got.End = End
GotWell Took End Failed got.Failed = Failed

abbrev pub WroteWell : (ℕ → Type 0) → Type 0 → WriteOutcome → Type 0
WroteWell Took Failed (wrote.Took n) = Took n
WroteWell Took Failed wrote.Failed = Failed

abbrev pub LengthIs : (ℕ → Type 0) → Type 0 → Length → Type 0
LengthIs Is Failed (len.Is n) = Is n
LengthIs Is Failed len.Failed = Failed

abbrev pub SyncedWell : Type 0 → Type 0 → Synced → Type 0
SyncedWell Done Failed synced.Done = Done
SyncedWell Done Failed synced.Failed = Failed

-- how many bytes a write may have changed: those that it took, or all that it was given
abbrev pub reach : WriteOutcome → ℕ → ℕ
reach (wrote.Took n) given = n
reach wrote.Failed given = given
