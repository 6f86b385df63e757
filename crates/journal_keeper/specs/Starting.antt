-- What opening a journal answers.
use Rattle.std.specs.Prelude.{ℕ}
use Rattle.journal_keeper.specs.States.{State}
use Rattle.journal_keeper.specs.declared.keeper.JournalStart.{JournalStart}
use Rattle.journal_keeper.specs.declared.keeper.JournalStart.TheVariants as started

-- of each answer what is said of it
abbrev pub StartedAs : {D : Type 0} → (State D → Type 0) → Type 0 → (ℕ → Type 0) → Type 0 → JournalStart D → Type 0
StartedAs Ready Failed Damaged Memory (started.Ready keeper) = Ready keeper
StartedAs Ready Failed Damaged Memory (started.Failed disk) = Failed
StartedAs Ready Failed Damaged Memory (started.Damaged place disk) = Damaged place
StartedAs Ready Failed Damaged Memory (started.Memory disk) = Memory

-- the disk, whatever was answered
abbrev pub disk_of : {D : Type 0} → JournalStart D → D
disk_of (started.Ready keeper) = keeper.disk
disk_of (started.Failed disk) = disk
disk_of (started.Damaged place disk) = disk
disk_of (started.Memory disk) = disk
