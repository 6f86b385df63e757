use Rattle.std.proofs.Common.{◌≡◌, take, flat_map}
use Rattle.shadow_records.specs.Cells.{partition_value_bytes}
use Rattle.record_bodies.proofs.partitions.write_partition.Given as goal

abbrev pub invariant-loop-value : goal.invariant-loop-value
invariant-loop-value l = l.body ≡ flat_map partition_value_bytes (take l.value-index l.values)
