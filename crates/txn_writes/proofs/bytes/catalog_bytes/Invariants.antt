use Rattle.std.proofs.Common.{◌≡◌, min, take}
use Rattle.vec_base.specs.declared.limits.TheConstants.{LAST_COUNT}
use Rattle.version_shelf.specs.OnShelf.{shown}
use Rattle.txn_writes.specs.inner.VersionBytes.{all_sides, all_vectors}
use Rattle.txn_writes.proofs.bytes.catalog_bytes.Given as goal

abbrev pub invariant-loop-at : goal.invariant-loop-at
invariant-loop-at l = record {
  vectors : l.vectors ≡ min (all_vectors (take l.at (shown l.shelf l.held.places))) LAST_COUNT;
  sides : l.sides ≡ min (all_sides (take l.at (shown l.shelf l.held.places))) LAST_COUNT;
}
