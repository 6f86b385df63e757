use Rattle.std.proofs.Common.{◌∙◌, ap, sym, length, arith, rules, w64, to_z, of_z}
use Rattle.std.proofs.lemmas.Int.{to_z-of_z}
use mir.Val.{SFits}
use Rattle.chunk_slots.specs.Slots.{vector_at}
use Rattle.knn_plan.specs.Plans.{PlannedTarget}
use Rattle.shadow_records.specs.PlacedTables.{PlacedRow}
use Rattle.nearest_query.proofs.PlaceLaws.{some_row}
use Rattle.nearest_query.proofs.ScanLaws.{read-left, read-offered, vector-at}
use Rattle.nearest_query.proofs.TermFacts.{columns_long}
use Rattle.nearest_query.proofs.VectorLaws.{column_low, comparable_at}
use Rattle.nearest_query.proofs.scan.offer_read.Goals as goal

pub vector-requires-clause-column : goal.vector-requires-clause-column
vector-requires-clause-column c =
    let table = c.args.table.now.table in
    let plan = c.args.plan.now in
    let target = c.args.target.now in
    let ready = c.requires.ready in
    let low = column_low table plan target ready c.args.chunk c.args.slot c.requires.row.0 c.requires.row.1.0 in
    let same = ap (λ (t : PlannedTarget). t.column.number) c.target.view_is in
    let wide = ap length c.requires.widths in
    omega (arith, low, same, wide)

pub distance_to-distance-requires-clause-column : goal.distance_to-distance-requires-clause-column
distance_to-distance-requires-clause-column c =
    (comparable_at c.args.table.now.table c.args.plan.now c.args.target.now c.requires.ready c.args.chunk c.args.slot c.requires.row.0 c.requires.row.1.0).column

pub distance_to-distance-requires-clause-same_length : goal.distance_to-distance-requires-clause-same_length
distance_to-distance-requires-clause-same_length c =
    let table = c.args.table.now.table in
    let plan = c.args.plan.now in
    let target = c.args.target.now in
    let ready = c.requires.ready in
    let bytes = c.vector.ensures.vector ∙ ap (λ (t : PlannedTarget). vector_at c.args.slots.now c.args.slot t.column.number) c.target.view_is in
    let read = vector-at table plan target ready c.args.chunk c.args.slot c.requires.row.0 c.args.slots.now c.vector.result.now c.requires.row.1.0 c.requires.kept_slot bytes in
    ap length read ∙ (comparable_at table plan target ready c.args.chunk c.args.slot c.requires.row.0 c.requires.row.1.0).same_length

pub distance_to-distance-requires-clause-short : goal.distance_to-distance-requires-clause-short
distance_to-distance-requires-clause-short c =
    (comparable_at c.args.table.now.table c.args.plan.now c.args.target.now c.requires.ready c.args.chunk c.args.slot c.requires.row.0 c.requires.row.1.0).short

pub bounds_met-requires-clause-columns : goal.bounds_met-requires-clause-columns
bounds_met-requires-clause-columns c = columns_long c.args.table.now.table.schema.columns c.args.plan.now.select.where_terms c.args.plan.now.terms c.requires.ready.plan_for.terms

pub returns-then-not-bounds_met-clause-best : goal.returns-then-not-bounds_met-clause-best
returns-then-not-bounds_met-clause-best c p there =
    let table = c.args.table.now.table in
    let plan = c.args.plan.now in
    let target = c.args.target.now in
    let ready = c.requires.ready in
    let bytes = c.vector.ensures.vector ∙ ap (λ (t : PlannedTarget). vector_at c.args.slots.now c.args.slot t.column.number) c.target.view_is in
    let read = vector-at table plan target ready c.args.chunk c.args.slot p c.args.slots.now c.vector.result.now there c.requires.kept_slot bytes in
    let columns = table.schema.columns in
    read-left columns plan.select.where_terms c.args.best.now target p c.distance_to-distance.result (c.distance_to-distance.ensures p.row read) (sym (c.bounds_met.ensures columns ready.plan_for) ∙ c.if-not-bounds_met.true)

pub returns-clause-best : goal.returns-clause-best
returns-clause-best c p there =
    let table = c.args.table.now.table in
    let plan = c.args.plan.now in
    let target = c.args.target.now in
    let ready = c.requires.ready in
    let bytes = c.vector.ensures.vector ∙ ap (λ (t : PlannedTarget). vector_at c.args.slots.now c.args.slot t.column.number) c.target.view_is in
    let read = vector-at table plan target ready c.args.chunk c.args.slot p c.args.slots.now c.vector.result.now there c.requires.kept_slot bytes in
    let columns = table.schema.columns in
    let fits : SFits w64 c.args.rowid.now = search rules in
    let one = some_row c.requires.row.0 p (sym c.requires.row.1.0 ∙ there) in
    let same = ap (λ (q : PlacedRow). q.row.rowid) (sym one) ∙ c.requires.row.1.1 ∙ sym (to_z-of_z w64 c.args.rowid.now fits) in
    read-offered columns plan.select.where_terms c.args.best.now c.offer.new.self target p c.distance_to-distance.result (to_z w64 (of_z w64 c.args.rowid.now)) (c.distance_to-distance.ensures p.row read) same
    (sym (c.bounds_met.ensures columns ready.plan_for) ∙ c.if-not-bounds_met.false) c.offer.ensures.room c.offer.ensures.hits
