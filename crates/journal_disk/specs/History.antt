-- What a disk was asked to do, newest first, and what a stop may have left meanwhile.
use Rattle.std.specs.Prelude.{◌≡◌, ◌⊎◌, ℕ, ◌+◌, ◌-◌, ◌≤◌, List, [], ◌∷◌, ◌++◌, reverse, length, take, drop, refl}
use Rattle.std.proofs.Common.{inl, inr, arith}
use Rattle.journal_disk.specs.Disk.{Torn}
use Rattle.journal_disk.specs.declared.memory.Event.{Event}
use Rattle.journal_disk.specs.declared.memory.Event.TheVariants.{Write, Sync}

-- the newest first of events that are kept with the oldest first
abbrev pub events_of : List Event → List Event
events_of kept = reverse kept

-- all bytes that were written, behind each other, without those of the newest write of n bytes
abbrev pub earlier : ℕ → List ℕ → List ℕ
earlier n log = take (length log - n) log

-- the bytes of the newest write
abbrev pub newest : ℕ → List ℕ → List ℕ
newest n log = drop (length log - n) log

-- these bytes at this place
abbrev pub put : List ℕ → ℕ → List ℕ → List ℕ
put old at bytes = take at old ++ bytes ++ drop (at + length bytes) old

-- the bytes after the events
abbrev pub replayed : List ℕ → List Event → List ℕ → List ℕ
replayed base [] log = base
replayed base ((Write at n) ∷ older) log = put (replayed base older (earlier n log)) at (newest n log)
replayed base (Sync ∷ older) log = replayed base older log

-- the files that a stop then may leave
abbrev pub Images : List ℕ → List Event → List ℕ → List ℕ → Type 0
Images base [] log c = c ≡ base
Images base ((Write at n) ∷ older) log c = (c ≡ replayed base ((Write at n) ∷ older) log) ⊎ ((d : List ℕ) × Images base older (earlier n log) d × Torn at n d c)
Images base (Sync ∷ older) log c = c ≡ replayed base older log

-- all bytes that were written before an event
abbrev pub log_before : Event → List ℕ → List ℕ
log_before (Write at n) log = earlier n log
log_before Sync log = log

-- The files that a stop may have left, at some moment from t on. Moments are counted by the events before them.
abbrev pub Since : ℕ → List ℕ → List Event → List ℕ → List ℕ → Type 0
Since t base [] log c = c ≡ base
Since t base (e ∷ older) log c = Images base (e ∷ older) log c ⊎ ((t ≤ length older) × Since t base older (log_before e log) c)

pub since_now : (t : ℕ) (base : List ℕ) (events : List Event) (log c : List ℕ) → Images base events log c → Since t base events log c
since_now t base [] log c h = h
since_now t base (e ∷ older) log c h = inl h

pub only_since : (base : List ℕ) (events : List Event) (log c : List ℕ) → Since (length events) base events log c → Images base events log c
only_since base [] log c h = h
only_since base (e ∷ older) log c (inl h) = h
only_since base (e ∷ older) log c (inr h) = let le = h.0 in absurd (omega arith)

-- the file with all that was asked for is one of them
pub images_replayed : (base : List ℕ) (events : List Event) (log : List ℕ) → Images base events log (replayed base events log)
images_replayed base [] log = refl
images_replayed base ((Write at n) ∷ older) log = inl refl
images_replayed base (Sync ∷ older) log = refl
