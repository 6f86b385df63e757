use Rattle.std.proofs.Common.{◌≡◌, ℕ, ◌<◌, get_or, Some, None}
use Rattle.version_shelf.proofs.held.Held.names.Given as goal

abbrev pub invariant-loop-named : goal.invariant-loop-named
invariant-loop-named l = (k : ℕ) → k < l.named-index → get_or l.self.places k None ≡ Some l.place → ⊥
