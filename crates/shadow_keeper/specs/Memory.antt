-- What the keeper in memory holds, and what its calls answer.
use Rattle.std.specs.Prelude.{ℕ, Bool, true, false, if◌then◌else◌, List, [], ◌∷◌, Option}
use Rattle.std.specs.Vec.Iter.{into_iter_items}
use Rattle.vec_base.specs.Forms.{next_call, is_listed}
use Rattle.vec_base.specs.declared.shadow.ShadowKey.{ShadowKey}
use Rattle.shadow_records.specs.Keys.{Tables}
use Rattle.shadow_keeper.specs.declared.keeper.Loaded.{Loaded}
use Rattle.shadow_keeper.specs.declared.keeper.Loaded.TheVariants as loaded
use Rattle.shadow_keeper.specs.declared.keeper.Kept.{Kept}
use Rattle.shadow_keeper.specs.declared.keeper.Kept.TheVariants as kept
use Rattle.shadow_keeper.specs.declared.memory.MemoryKeeper.{MemoryKeeper}
use Rattle.shadow_keeper.specs.inner.Slots.{tables_in}

-- the tables
abbrev pub memory_tables : MemoryKeeper → Tables
memory_tables keeper = tables_in keeper.slots.entries

-- the records not yet given
abbrev pub memory_left : MemoryKeeper → List (ShadowKey × List ℕ)
memory_left keeper = into_iter_items keeper.left

-- the key given last
abbrev pub memory_last : MemoryKeeper → Option ShadowKey
memory_last keeper = keeper.last

-- whether the end was told
abbrev pub memory_ended : MemoryKeeper → Bool
memory_ended keeper = keeper.ended

-- the numbers of the calls that are to fail
abbrev pub memory_fails : MemoryKeeper → List ℕ
memory_fails keeper = keeper.faults.fails

-- how many calls there were
abbrev pub memory_calls : MemoryKeeper → ℕ
memory_calls keeper = keeper.faults.calls

-- how many calls failed
abbrev pub memory_faults : MemoryKeeper → ℕ
memory_faults keeper = keeper.faults.count

-- whether the next call fails
abbrev pub next_fails : MemoryKeeper → Bool
next_fails keeper = is_listed (memory_fails keeper) (next_call (memory_calls keeper))

-- the first of the records, or the end
abbrev pub first_of : List (ShadowKey × List ℕ) → Loaded
first_of [] = loaded.End
first_of (entry ∷ entries) = loaded.One entry.0 entry.1

-- What the next call for a record answers. The listed calls fail.
abbrev pub next_answer : MemoryKeeper → Loaded
next_answer keeper = if next_fails keeper then loaded.Failed else first_of (memory_left keeper)

abbrev pub is_failed : Kept → Bool
is_failed kept.Failed = true
is_failed _ = false
