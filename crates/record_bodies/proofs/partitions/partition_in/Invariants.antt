use Rattle.std.proofs.Common.{◌≡◌, drop}
use Rattle.record_bodies.specs.Bodies.{partition_in}
use Rattle.record_bodies.specs.inner.InTurn.{behind_items}
use Rattle.record_bodies.proofs.partitions.partition_in.Given as goal

abbrev pub invariant-loop-column : goal.invariant-loop-column
invariant-loop-column l = behind_items l.values (partition_in (drop l.column-index l.schema.columns) l.rest) ≡ partition_in l.schema.columns l.body
