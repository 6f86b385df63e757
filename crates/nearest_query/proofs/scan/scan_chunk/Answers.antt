use Rattle.std.proofs.Common.{◌∙◌, arith}
use Rattle.nearest_query.proofs.ScanLaws.{filtered}
use Rattle.nearest_query.proofs.scan.scan_chunk.Goals as goal

pub offer_kept-requires-clause-bits : goal.offer_kept-requires-clause-bits
offer_kept-requires-clause-bits c s less =
    let table = c.args.table.now.table in
    let slots = c.in-Some.slots.now in
    let size = c.in-Some.ensures.size in
    filtered table c.args.plan.now.select.where_terms slots c.args.chunk s c.assign.new.self c.filter_all.new.keep (omega (arith, less, size)) (c.assign.ensures ∙ c.valid.ensures) (c.in-Some.ensures.slots s)
    (c.filter_all.ensures.cleared s) (c.filter_all.ensures.passed s)
