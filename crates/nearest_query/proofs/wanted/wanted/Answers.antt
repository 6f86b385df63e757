use Rattle.std.proofs.Common.{◌∙◌, sym, arith}
use Rattle.nearest_query.specs.Searches.{above_chunks}
use Rattle.nearest_query.proofs.ChunkLaws.{above-is, below-there, no-more, one-more, wanted-start, wanted-end}
use Rattle.nearest_query.proofs.wanted.wanted.Goals as goal

pub loop-chunk-init : goal.loop-chunk-init
loop-chunk-init c = record {
  found = c.new-chunks.ensures.items ∙ wanted-start c.args.table.now.table c.args.plan.now.select.where_terms c.requires.ready.1.placed;
  below = omega arith;
}

pub loop-chunk-preserved-in_ok-push : goal.loop-chunk-preserved-in_ok-push
loop-chunk-preserved-in_ok-push c =
    let table = c.args.table.now.table in
    let terms = c.args.plan.now.select.where_terms in
    let next = c.in-Some.ensures in
    record {
      found = one-more table terms c.loop-chunk.chunks.items c.push.new.self.items c.loop-chunk.after c.in-Some.chunk c.loop-chunk.invariant.found next.0 next.2 (sym c.partition_met.ensures ∙ c.if-partition_met.true) c.in_ok-push.ensures.items;
      below = below-there table c.in-Some.chunk c.requires.ready.1.placed next.1;
    }

pub loop-chunk-preserved : goal.loop-chunk-preserved
loop-chunk-preserved c =
    let table = c.args.table.now.table in
    let terms = c.args.plan.now.select.where_terms in
    let next = c.in-Some.ensures in
    record {
      found = no-more table terms c.loop-chunk.chunks.items c.loop-chunk.after c.in-Some.chunk c.loop-chunk.invariant.found next.0 next.2 (sym c.partition_met.ensures ∙ c.if-partition_met.false);
      below = below-there table c.in-Some.chunk c.requires.ready.1.placed next.1;
    }

pub returns : goal.returns
returns c =
    let table = c.args.table.now.table in
    let terms = c.args.plan.now.select.where_terms in
    let is = above-is in
    let below = c.loop-chunk.invariant.below in
    c.loop-chunk.invariant.found ∙ wanted-end table terms c.loop-chunk.after above_chunks (omega (arith, is, below)) c.in_default.ensures
