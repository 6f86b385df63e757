use Rattle.std.proofs.Common.{◌≡◌, length, take}
use Rattle.nearest_query.specs.inner.Scanning.{hits_over, ticked, with_offers}
use Rattle.nearest_query.proofs.scan.scan_chunks.Given as goal

abbrev pub invariant-loop-chunk : goal.invariant-loop-chunk
invariant-loop-chunk l =
    let table = l.table.table in
    let terms = l.plan.select.where_terms in
    record {
      keep : length l.keep ≡ table.schema.chunk_size;
      best : l.best ≡ with_offers table.schema.columns terms l.initial.best (hits_over table terms l.target (take l.chunk-index l.chunks));
      reads : l.steps.reads ≡ ticked l.initial.steps.reads (length (hits_over table terms l.target (take l.chunk-index l.chunks)));
      pieces : l.steps.pieces ≡ l.initial.steps.pieces;
    }
