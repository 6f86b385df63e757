use Rattle.std.proofs.Common.{◌≡◌, take}
use Rattle.shared_leaves.proofs.leaves.Leaves.share.Given as goal

abbrev pub invariant-loop-leaf : goal.invariant-loop-leaf
invariant-loop-leaf g l = l.leaves.items ≡ take l.leaf-index l.leaf-items
