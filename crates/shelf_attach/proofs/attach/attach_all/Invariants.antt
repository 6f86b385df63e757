-- The records before those that are left stand for the tables that are built.
use Rattle.std.proofs.Common.{length}
use Rattle.shelf_attach.specs.inner.Building.{IsBuilt}
use Rattle.shelf_attach.proofs.attach.attach_all.Given as goal

abbrev pub invariant-loop-first : goal.invariant-loop-first
invariant-loop-first l = IsBuilt l.records l.rest l.built

abbrev pub decreases-loop-first : goal.decreases-loop-first
decreases-loop-first l = length l.rest
