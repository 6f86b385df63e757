use Rattle.std.proofs.Common.{ℕ, ◌<◌, None}
use Rattle.std.specs.Prelude.{slice_index_or}
use Rattle.txn_commits.specs.Standing.{IsPlacedIn}
use Rattle.version_shelf.specs.OnShelf.{shown}
use Rattle.txn_commits.proofs.batch.versions_known.Given as goal

abbrev pub invariant-loop-at : goal.invariant-loop-at
invariant-loop-at l = (n : ℕ) → n < l.at → IsPlacedIn (slice_index_or (shown l.shelf l.held.places) n None)
