use Rattle.std.proofs.Common.{◌∙◌, get_or}
use Rattle.nearest_query.specs.inner.Scanning.{hits_in}
use Rattle.nearest_query.proofs.ScanLaws.{over-more, ticks-over}
use Rattle.std.proofs.lemmas.List.{get_or_default}
use Rattle.nearest_query.proofs.scan.scan_chunks.Goals as goal

pub loop-chunk-preserved : goal.loop-chunk-preserved
loop-chunk-preserved c =
    let table = c.args.table.now.table in
    let terms = c.args.plan.now.select.where_terms in
    let f = hits_in table terms c.args.target.now in
    let one = get_or c.args.chunks.now c.loop-chunk.chunk-index 0 in
    let is = get_or_default c.args.chunks.now c.loop-chunk.chunk-index 0 one c.loop-chunk-test.true in
    record {
      keep = c.scan_chunk.ensures.keep;
      best = over-more table.schema.columns terms c.args.best.now c.loop-chunk.best c.scan_chunk.new.best f c.args.chunks.now c.loop-chunk.chunk-index one c.loop-chunk-test.true is c.loop-chunk.invariant.best c.scan_chunk.ensures.best;
      reads = ticks-over c.args.steps.now.reads c.loop-chunk.steps.reads c.scan_chunk.new.steps.reads f c.args.chunks.now c.loop-chunk.chunk-index one c.loop-chunk-test.true is c.loop-chunk.invariant.reads c.scan_chunk.ensures.reads;
      pieces = c.scan_chunk.ensures.pieces ∙ c.loop-chunk.invariant.pieces;
    }
