use Rattle.std.proofs.Common.{◌≡◌, ◌<◌, ◌+◌, ◌-◌}
use Rattle.nearest_query.specs.Searches.{wanted_below}
use Rattle.nearest_query.proofs.wanted.wanted.Given as goal

abbrev pub invariant-loop-chunk : goal.invariant-loop-chunk
invariant-loop-chunk l = record {
  found : l.chunks.items ≡ wanted_below l.table.table l.plan.select.where_terms (l.after + 1);
  below : l.after < 4294967296;
}

abbrev pub decreases-loop-chunk : goal.decreases-loop-chunk
decreases-loop-chunk l = 4294967296 - l.after
