use Rattle.std.proofs.Common.{◌≡◌, ◌≤◌, length, take}
use Rattle.std.specs.Vec.{vec_capacity}
use Rattle.shared_leaves.specs.inner.Joined.{joined, ends_of}
use Rattle.shared_leaves.proofs.leaves.count_ends.Given as goal

abbrev pub invariant-loop-index : goal.invariant-loop-index
invariant-loop-index g l = record {
  end : l.end ≡ length (joined (take l.index l.leaves));
  ends : l.ends.items ≡ ends_of 0 (take l.index l.leaves);
  room : length l.leaves ≤ vec_capacity l.ends;
}
