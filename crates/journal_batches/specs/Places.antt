-- Where a journal goes on.
use Rattle.std.specs.Prelude.{ℕ, ◌+◌, true, false}
use Rattle.shadow_keeper.specs.declared.keeper.Kept.{Kept}
use Rattle.shadow_keeper.specs.declared.keeper.Kept.TheVariants as kept
use Rattle.journal_writes.specs.declared.adding.Added.{Added}
use Rattle.journal_writes.specs.declared.adding.Added.TheVariants as added
use Rattle.journal_batches.specs.declared.places.Place.{Place}

-- where it goes on after so many bytes were added, or not
abbrev pub place_after : Place → ℕ → Added → Place
place_after place len added.Done = record { gate = place.gate + len; number = place.number + 1; uncertain = false }
place_after place len added.Closing = place
place_after place len added.Staging = record { gate = place.gate; number = place.number; uncertain = false }
place_after place len added.Opening = record { gate = place.gate; number = place.number; uncertain = true }

-- what a commit then answers
abbrev pub kept_after : Added → Kept
kept_after added.Done = kept.Done
kept_after added.Closing = kept.Failed
kept_after added.Staging = kept.Failed
kept_after added.Opening = kept.Failed
