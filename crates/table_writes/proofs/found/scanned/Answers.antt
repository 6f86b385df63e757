use Rattle.std.proofs.Common.{rules, ◌<◌, ◌∷◌, ◌++◌, [], ◌∙◌, ℤ, List, Some, None, ap, sym, subst, length, w64, SFits, of_z, to_z}
use Rattle.std.proofs.lemmas.Int.{to_z-of_z}
use Rattle.row_model.specs.Values.{met}
use Rattle.shadow_records.specs.PlacedTables.{plain_rows}
use Rattle.table_writes.proofs.FoundLaws.{IsScanned, left_of, scan_begins, scan_ends, scan_goes_on, scan_shrinks}
use Rattle.table_writes.proofs.found.scanned.Goals as goal

pub loop-rowid-init : goal.loop-rowid-init
loop-rowid-init c =
    let table = c.args.table.now.table in
    let terms = c.args.plan.now.select.where_terms in
    subst (λ (ids : List ℤ). IsScanned table.schema.columns terms (plain_rows table.rows) ids None) (sym c.new-rowids.ensures) (scan_begins table.schema.columns terms (plain_rows table.rows))

pub loop-rowid-smaller : goal.loop-rowid-smaller
loop-rowid-smaller c =
    let table = c.args.table.now.table in
    let terms = c.args.plan.now.select.where_terms in
    let rows = plain_rows table.rows in
    let fits : SFits w64 c.in-Some.rowid = search rules in
    subst (λ (i : ℤ). length (left_of (Some i) (met table.schema.columns terms rows)) < length (left_of c.loop-rowid.after (met table.schema.columns terms rows))) (sym (to_z-of_z w64 c.in-Some.rowid fits))
    (scan_shrinks table.schema.columns terms rows c.loop-rowid.after c.in-Some.rowid c.known.ensures.valid.rising (sym c.scan_next.ensures ∙ c.in-Some.is))

pub loop-rowid-preserved : goal.loop-rowid-preserved
loop-rowid-preserved c =
    let table = c.args.table.now.table in
    let terms = c.args.plan.now.select.where_terms in
    let rows = plain_rows table.rows in
    let fits : SFits w64 c.in-Some.rowid = search rules in
    let same = to_z-of_z w64 c.in-Some.rowid fits in
    let next = scan_goes_on table.schema.columns terms rows c.loop-rowid.rowids c.loop-rowid.after c.in-Some.rowid c.known.ensures.valid.rising (sym c.scan_next.ensures ∙ c.in-Some.is) c.loop-rowid.invariant in
    let pushed = (c.in_ok-push.ensures {u = tt}).ok ∙ ap (λ (i : ℤ). c.loop-rowid.rowids ++ i ∷ []) same in
    subst (λ (ids : List ℤ). IsScanned table.schema.columns terms rows ids (Some (to_z w64 (of_z w64 c.in-Some.rowid)))) (sym pushed)
    (subst (λ (i : ℤ). IsScanned table.schema.columns terms rows (c.loop-rowid.rowids ++ c.in-Some.rowid ∷ []) (Some i)) (sym same) next)

pub returns : goal.returns
returns c =
    let table = c.args.table.now.table in
    scan_ends table.schema.columns c.args.plan.now.select.where_terms (plain_rows table.rows) c.loop-rowid.rowids c.loop-rowid.after (sym c.scan_next.ensures ∙ c.in_default.is) c.loop-rowid.invariant
