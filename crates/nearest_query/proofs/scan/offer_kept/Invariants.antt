use Rattle.std.proofs.Common.{◌≡◌, length}
use Rattle.nearest_query.specs.Gathered.{found_in}
use Rattle.nearest_query.specs.inner.Scanning.{is_read_row, row_hit, ticked, with_offers}
use Rattle.nearest_query.proofs.scan.offer_kept.Given as goal

abbrev pub invariant-loop-slot : goal.invariant-loop-slot
invariant-loop-slot l =
    let table = l.table.table in
    let terms = l.plan.select.where_terms in
    record {
      best : l.best ≡ with_offers table.schema.columns terms l.initial.best (found_in (is_read_row table terms) (row_hit l.target) table.rows l.slot l.chunk);
      reads : l.steps.reads ≡ ticked l.initial.steps.reads (length (found_in (is_read_row table terms) (row_hit l.target) table.rows l.slot l.chunk));
      pieces : l.steps.pieces ≡ l.initial.steps.pieces;
    }
