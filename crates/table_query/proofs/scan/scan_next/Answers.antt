use Rattle.std.proofs.Common.{rules, ◌<◌, ◌∙◌, ℤ, Some, ap, sym, subst, length, w64, SFits}
use Rattle.std.specs.Option.{option_map}
use Rattle.std.proofs.lemmas.Int.{to_z-of_z}
use Rattle.shadow_records.specs.PlacedTables.{plain_rows, row_of}
use Rattle.table_query.specs.Met.{is_met, next_met, rowid_of}
use Rattle.table_query.proofs.ScanLaws.{above, ends, found_next, goes_on, less_left}
use Rattle.table_query.proofs.scan.scan_next.Goals as goal

pub returns-then-is_met : goal.returns-then-is_met
returns-then-is_met c =
    let table = c.args.table.now.table in
    let columns = table.schema.columns in
    let terms = c.args.plan.now.select.where_terms in
    let fits : SFits w64 c.in-Some.rowid = search rules in
    ap Some (to_z-of_z w64 c.in-Some.rowid fits)
    ∙ sym (found_next columns terms c.loop-rowid.at table.rows c.in-Some.rowid c.known.ensures.valid.rising (sym c.next_rowid.ensures ∙ c.in-Some.is) (ap (λ (i : ℤ). is_met columns terms (row_of table.rows i)) (sym (to_z-of_z w64 c.in-Some.rowid fits)) ∙ sym c.is_met.ensures ∙ c.if-is_met.true))
    ∙ ap (option_map rowid_of) c.loop-rowid.invariant

pub loop-rowid-smaller : goal.loop-rowid-smaller
loop-rowid-smaller c =
    let table = c.args.table.now.table in
    let fits : SFits w64 c.in-Some.rowid = search rules in
    subst (λ (i : ℤ). length (above (Some i) table.rows) < length (above c.loop-rowid.at table.rows)) (sym (to_z-of_z w64 c.in-Some.rowid fits))
    (less_left c.loop-rowid.at table.rows c.in-Some.rowid c.known.ensures.valid.rising (sym c.next_rowid.ensures ∙ c.in-Some.is))

pub loop-rowid-preserved : goal.loop-rowid-preserved
loop-rowid-preserved c =
    let table = c.args.table.now.table in
    let columns = table.schema.columns in
    let terms = c.args.plan.now.select.where_terms in
    let fits : SFits w64 c.in-Some.rowid = search rules in
    ap (λ (i : ℤ). next_met columns terms (Some i) (plain_rows table.rows)) (to_z-of_z w64 c.in-Some.rowid fits)
    ∙ goes_on columns terms c.loop-rowid.at table.rows c.in-Some.rowid c.known.ensures.valid.rising (sym c.next_rowid.ensures ∙ c.in-Some.is) (ap (λ (i : ℤ). is_met columns terms (row_of table.rows i)) (sym (to_z-of_z w64 c.in-Some.rowid fits)) ∙ sym c.is_met.ensures ∙ c.if-is_met.false)
    ∙ c.loop-rowid.invariant

pub returns : goal.returns
returns c =
    let table = c.args.table.now.table in
    let columns = table.schema.columns in
    let terms = c.args.plan.now.select.where_terms in
    sym (ap (option_map rowid_of) (ends columns terms c.loop-rowid.at table.rows (sym c.next_rowid.ensures ∙ c.in_default.is))) ∙ ap (option_map rowid_of) c.loop-rowid.invariant
