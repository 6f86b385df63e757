use Rattle.std.proofs.Common.{◌≡◌, ◌++◌, take}
use Rattle.plain_engine.proofs.copies.push_copies.Given as goal

abbrev pub invariant-loop-named : goal.invariant-loop-named
invariant-loop-named l = l.copies.items ≡ l.initial.copies.items ++ take l.named-index l.tables
