-- What the laws of a disk come to for the one in memory.
use Rattle.std.specs.Prelude.{◌≡◌, ℕ, List, length}
use Rattle.std.proofs.Common.{sym, subst}
use Rattle.journal_disk.specs.declared.memory.Event.{Event}
use Rattle.std.proofs.lemmas.List.{length-reverse}
use Rattle.journal_disk.specs.History.{Images, events_of, replayed, images_replayed, Since, only_since}

pub now_images : (base bytes : List ℕ) (events : List Event) (log : List ℕ) → bytes ≡ replayed base events log → Images base events log bytes
now_images base bytes events log same = let P : List ℕ → Type 0 = Images base events log in subst P (sym same) (images_replayed base events log)

pub only_kept : (base : List ℕ) (kept : List Event) (log c : List ℕ) → Since (length kept) base (events_of kept) log c → Images base (events_of kept) log c
only_kept base kept log c h = only_since base (events_of kept) log c (let P : ℕ → Type 0 = λ t. Since t base (events_of kept) log c in subst P (sym (length-reverse kept)) h)
