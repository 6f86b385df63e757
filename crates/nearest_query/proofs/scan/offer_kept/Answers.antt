use Rattle.std.proofs.Common.{◌∙◌, ℕ, List}
use Rattle.shadow_records.specs.PlacedTables.{row_at}
use Rattle.topk_merge.specs.declared.hit.Hit.{Hit}
use Rattle.nearest_query.specs.Gathered.{found}
use Rattle.nearest_query.specs.inner.Scanning.{is_read_row, row_hit}
use Rattle.nearest_query.proofs.ScanLaws.{offers-more, ticks-more}
use Rattle.nearest_query.proofs.scan.offer_kept.Goals as goal

pub loop-slot-preserved : goal.loop-slot-preserved
loop-slot-preserved c =
    let table = c.args.table.now.table in
    let terms = c.args.plan.now.select.where_terms in
    let f : ℕ → List Hit = λ s. found (is_read_row table terms) (row_hit c.args.target.now) (row_at table.rows c.args.chunk s) in
    record {
      best = offers-more table.schema.columns terms c.args.best.now c.loop-slot.best c.offer_slot.new.best f c.loop-slot.slot c.loop-slot.invariant.best c.offer_slot.ensures.best;
      reads = ticks-more c.args.steps.now.reads c.loop-slot.steps.reads c.offer_slot.new.steps.reads f c.loop-slot.slot c.loop-slot.invariant.reads c.offer_slot.ensures.reads;
      pieces = c.offer_slot.ensures.pieces ∙ c.loop-slot.invariant.pieces;
    }
