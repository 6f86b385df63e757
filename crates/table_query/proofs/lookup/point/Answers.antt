use Rattle.std.proofs.Common.{rules, ◌≡◌, ◌∙◌, ℤ, Some, None, ap, sym, w64, SFits}
use Rattle.std.specs.List.{slice_get}
use Rattle.std.proofs.lemmas.Int.{to_z-of_z}
use Rattle.shadow_records.specs.PlacedTables.{row_of}
use Rattle.table_query.specs.Met.{is_met}
use Rattle.table_query.specs.Said.{rowid_said}
use Rattle.table_query.proofs.PointLaws.{no_index, no_term, none_said, rowid_tested, the_answer}
use Rattle.table_query.proofs.lookup.point.Goals as goal

pub returns-in_err-index-clause-rowid : goal.returns-in_err-index-clause-rowid
returns-in_err-index-clause-rowid c =
    let table = c.args.table.now.table in
    let plan = c.args.plan.now in
    let none : plan.point ≡ None = search rules in
    no_index table.schema.columns plan (c.from_residual.result ≡ the_answer table plan) c.requires.plan c.requires.point none

pub returns-in_err-term-clause-rowid : goal.returns-in_err-term-clause-rowid
returns-in_err-term-clause-rowid c =
    let table = c.args.table.now.table in
    let plan = c.args.plan.now in
    let at : plan.point ≡ Some c.in_ok-index.index = search rules in
    let none : slice_get plan.select.where_terms c.in_ok-index.index ≡ None = search rules in
    no_term table.schema.columns plan (c.from_residual-in_err-term.result ≡ the_answer table plan) c.in_ok-index.index c.requires.plan at none

pub returns-in_err-rowid-clause-rowid : goal.returns-in_err-rowid-clause-rowid
returns-in_err-rowid-clause-rowid c =
    let table = c.args.table.now.table in
    let plan = c.args.plan.now in
    let at : plan.point ≡ Some c.in_ok-index.index = search rules in
    let found : slice_get plan.select.where_terms c.in_ok-index.index ≡ Some c.in_ok-term.term.now = search rules in
    let none : rowid_said table.schema.columns table.rows c.in_ok-term.term.now.test ≡ None = search rules in
    let result : c.from_residual-in_err-rowid.result ≡ None = search rules in
    result ∙ sym (none_said table plan c.known.ensures c.requires.plan c.in_ok-index.index c.in_ok-term.term.now at found none)

pub returns-then-is_met-clause-rowid : goal.returns-then-is_met-clause-rowid
returns-then-is_met-clause-rowid c =
    let table = c.args.table.now.table in
    let plan = c.args.plan.now in
    let at : plan.point ≡ Some c.in_ok-index.index = search rules in
    let found : slice_get plan.select.where_terms c.in_ok-index.index ≡ Some c.in_ok-term.term.now = search rules in
    let here : rowid_said table.schema.columns table.rows c.in_ok-term.term.now.test ≡ Some c.in_ok-rowid.rowid = search rules in
    let fits : SFits w64 c.in_ok-rowid.rowid = search rules in
    let same = to_z-of_z w64 c.in_ok-rowid.rowid fits in
    let tested = ap (λ (i : ℤ). is_met table.schema.columns plan.select.where_terms (row_of table.rows i)) (sym same) ∙ sym c.is_met.ensures ∙ c.if-is_met.true in
    ap Some same ∙ sym (rowid_tested table plan c.known.ensures c.requires.plan c.in_ok-index.index c.in_ok-term.term.now at found c.in_ok-rowid.rowid here _ tested)

pub returns-else-is_met-clause-rowid : goal.returns-else-is_met-clause-rowid
returns-else-is_met-clause-rowid c =
    let table = c.args.table.now.table in
    let plan = c.args.plan.now in
    let at : plan.point ≡ Some c.in_ok-index.index = search rules in
    let found : slice_get plan.select.where_terms c.in_ok-index.index ≡ Some c.in_ok-term.term.now = search rules in
    let here : rowid_said table.schema.columns table.rows c.in_ok-term.term.now.test ≡ Some c.in_ok-rowid.rowid = search rules in
    let fits : SFits w64 c.in_ok-rowid.rowid = search rules in
    let same = to_z-of_z w64 c.in_ok-rowid.rowid fits in
    let tested = ap (λ (i : ℤ). is_met table.schema.columns plan.select.where_terms (row_of table.rows i)) (sym same) ∙ sym c.is_met.ensures ∙ c.if-is_met.false in
    sym (rowid_tested table plan c.known.ensures c.requires.plan c.in_ok-index.index c.in_ok-term.term.now at found c.in_ok-rowid.rowid here _ tested)
