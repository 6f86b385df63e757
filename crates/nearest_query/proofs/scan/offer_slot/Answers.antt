use Rattle.std.proofs.Common.{◌∙◌, ℤ, List, ap, sym, length, rules, w64}
use Rattle.std.proofs.lemmas.Int.{to_z-of_z}
use mir.Val.{SFits}
use Rattle.chunk_slots.specs.Slots.{slot_at}
use Rattle.shadow_records.specs.PlacedTables.{row_at, row_of}
use Rattle.topk_merge.specs.declared.hit.Hit.{Hit}
use Rattle.nearest_query.specs.Gathered.{found}
use Rattle.nearest_query.specs.inner.Scanning.{is_read_row, row_hit, ticked, with_offers}
use Rattle.nearest_query.proofs.PlaceLaws.{row-of_place}
use Rattle.nearest_query.proofs.ScanLaws.{at-slot, failing, missing, passing}
use Rattle.nearest_query.proofs.scan.offer_slot.Goals as goal

pub returns-then-not-get-clause-best : goal.returns-then-not-get-clause-best
returns-then-not-get-clause-best c =
    let table = c.args.table.now.table in
    let plan = c.args.plan.now in
    let target = c.args.target.now in
    let ready = c.requires.ready in
    let o = row_at table.rows c.args.chunk c.args.slot in
    let terms = plan.select.where_terms in
    let f = row_hit target in
    let none = missing table terms f o (sym c.requires.bit ∙ (sym c.get.ensures ∙ c.if-not-get.true)) in
    sym (ap (with_offers table.schema.columns terms c.args.best.now) none)

pub returns-then-not-get-clause-reads : goal.returns-then-not-get-clause-reads
returns-then-not-get-clause-reads c =
    let table = c.args.table.now.table in
    let plan = c.args.plan.now in
    let target = c.args.target.now in
    let ready = c.requires.ready in
    let o = row_at table.rows c.args.chunk c.args.slot in
    let terms = plan.select.where_terms in
    let f = row_hit target in
    let none = missing table terms f o (sym c.requires.bit ∙ (sym c.get.ensures ∙ c.if-not-get.true)) in
    sym (ap (λ (hits : List Hit). ticked c.args.steps.now.reads (length hits)) none)

pub returns-then-not-rest_met-clause-best : goal.returns-then-not-rest_met-clause-best
returns-then-not-rest_met-clause-best c =
    let table = c.args.table.now.table in
    let plan = c.args.plan.now in
    let target = c.args.target.now in
    let ready = c.requires.ready in
    let o = row_at table.rows c.args.chunk c.args.slot in
    let terms = plan.select.where_terms in
    let f = row_hit target in
    let here = at-slot table terms o c.get.result (slot_at c.args.slots.now c.args.slot) c.in-Some.rowid (c.get.ensures ∙ c.requires.bit) c.if-not-get.false c.requires.kept_slot (sym c.rowid.ensures ∙ c.in-Some.is) in
    let fits : SFits w64 c.in-Some.rowid = search rules in
    let round = sym (to_z-of_z w64 c.in-Some.rowid fits) in
    let of = ap (λ (n : ℤ). row_of table.rows n) (sym (here.same ∙ round)) ∙ row-of_place table.rows c.args.chunk c.args.slot here.row ready.placed.valid.rising here.is in
    let met = c.rest_met.ensures here.row of in
    let none = ap (found (is_read_row table terms) f) here.is ∙ failing table terms f here.row (sym met ∙ c.if-not-rest_met.true) in
    sym (ap (with_offers table.schema.columns terms c.args.best.now) none)

pub returns-then-not-rest_met-clause-reads : goal.returns-then-not-rest_met-clause-reads
returns-then-not-rest_met-clause-reads c =
    let table = c.args.table.now.table in
    let plan = c.args.plan.now in
    let target = c.args.target.now in
    let ready = c.requires.ready in
    let o = row_at table.rows c.args.chunk c.args.slot in
    let terms = plan.select.where_terms in
    let f = row_hit target in
    let here = at-slot table terms o c.get.result (slot_at c.args.slots.now c.args.slot) c.in-Some.rowid (c.get.ensures ∙ c.requires.bit) c.if-not-get.false c.requires.kept_slot (sym c.rowid.ensures ∙ c.in-Some.is) in
    let fits : SFits w64 c.in-Some.rowid = search rules in
    let round = sym (to_z-of_z w64 c.in-Some.rowid fits) in
    let of = ap (λ (n : ℤ). row_of table.rows n) (sym (here.same ∙ round)) ∙ row-of_place table.rows c.args.chunk c.args.slot here.row ready.placed.valid.rising here.is in
    let met = c.rest_met.ensures here.row of in
    let none = ap (found (is_read_row table terms) f) here.is ∙ failing table terms f here.row (sym met ∙ c.if-not-rest_met.true) in
    sym (ap (λ (hits : List Hit). ticked c.args.steps.now.reads (length hits)) none)

pub offer_read-requires-clause-row : goal.offer_read-requires-clause-row
offer_read-requires-clause-row c =
    let table = c.args.table.now.table in
    let plan = c.args.plan.now in
    let target = c.args.target.now in
    let ready = c.requires.ready in
    let o = row_at table.rows c.args.chunk c.args.slot in
    let terms = plan.select.where_terms in
    let f = row_hit target in
    let here = at-slot table terms o c.get.result (slot_at c.args.slots.now c.args.slot) c.in-Some.rowid (c.get.ensures ∙ c.requires.bit) c.if-not-get.false c.requires.kept_slot (sym c.rowid.ensures ∙ c.in-Some.is) in
    let fits : SFits w64 c.in-Some.rowid = search rules in
    let round = sym (to_z-of_z w64 c.in-Some.rowid fits) in
    (here.row, (here.is, here.same ∙ round))

pub returns-clause-best : goal.returns-clause-best
returns-clause-best c =
    let table = c.args.table.now.table in
    let plan = c.args.plan.now in
    let target = c.args.target.now in
    let ready = c.requires.ready in
    let o = row_at table.rows c.args.chunk c.args.slot in
    let terms = plan.select.where_terms in
    let f = row_hit target in
    let here = at-slot table terms o c.get.result (slot_at c.args.slots.now c.args.slot) c.in-Some.rowid (c.get.ensures ∙ c.requires.bit) c.if-not-get.false c.requires.kept_slot (sym c.rowid.ensures ∙ c.in-Some.is) in
    let fits : SFits w64 c.in-Some.rowid = search rules in
    let round = sym (to_z-of_z w64 c.in-Some.rowid fits) in
    let of = ap (λ (n : ℤ). row_of table.rows n) (sym (here.same ∙ round)) ∙ row-of_place table.rows c.args.chunk c.args.slot here.row ready.placed.valid.rising here.is in
    let met = c.rest_met.ensures here.row of in
    let one = ap (found (is_read_row table terms) f) here.is ∙ passing table terms f here.row (c.requires.partition here.row here.is) here.metadata (sym met ∙ c.if-not-rest_met.false) in
    c.offer_read.ensures.best here.row here.is ∙ sym (ap (with_offers table.schema.columns terms c.args.best.now) one)

pub returns-clause-reads : goal.returns-clause-reads
returns-clause-reads c =
    let table = c.args.table.now.table in
    let plan = c.args.plan.now in
    let target = c.args.target.now in
    let ready = c.requires.ready in
    let o = row_at table.rows c.args.chunk c.args.slot in
    let terms = plan.select.where_terms in
    let f = row_hit target in
    let here = at-slot table terms o c.get.result (slot_at c.args.slots.now c.args.slot) c.in-Some.rowid (c.get.ensures ∙ c.requires.bit) c.if-not-get.false c.requires.kept_slot (sym c.rowid.ensures ∙ c.in-Some.is) in
    let fits : SFits w64 c.in-Some.rowid = search rules in
    let round = sym (to_z-of_z w64 c.in-Some.rowid fits) in
    let of = ap (λ (n : ℤ). row_of table.rows n) (sym (here.same ∙ round)) ∙ row-of_place table.rows c.args.chunk c.args.slot here.row ready.placed.valid.rising here.is in
    let met = c.rest_met.ensures here.row of in
    let one = ap (found (is_read_row table terms) f) here.is ∙ passing table terms f here.row (c.requires.partition here.row here.is) here.metadata (sym met ∙ c.if-not-rest_met.false) in
    c.offer_read.ensures.reads ∙ sym (ap (λ (hits : List Hit). ticked c.args.steps.now.reads (length hits)) one)
