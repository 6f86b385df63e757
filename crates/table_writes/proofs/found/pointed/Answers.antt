use Rattle.std.proofs.Common.{rules, ◌≡◌, ◌∷◌, [], ◌∙◌, ℤ, List, ap, sym, w64, SFits, of_z, to_z}
use Rattle.std.proofs.lemmas.Int.{to_z-of_z}
use Rattle.std.proofs.lemmas.Result.{IfOk-weaker}
use Rattle.shadow_records.specs.PlacedTables.{plain_rows}
use Rattle.table_writes.proofs.FoundLaws.{met_ids, no_ids, point_ids}
use Rattle.table_writes.proofs.found.pointed.Goals as goal

pub returns-in-Some : goal.returns-in-Some
returns-in-Some c =
    let table = c.args.table.now.table in
    let fits : SFits w64 c.in-Some.rowid = search rules in
    IfOk-weaker c.only.result (λ (ids : List ℤ). ids ≡ to_z w64 (of_z w64 c.in-Some.rowid) ∷ []) (λ (ids : List ℤ). ids ≡ met_ids table.schema.columns c.args.plan.now.select.where_terms (plain_rows table.rows)) (λ ids is. is ∙ ap (λ (i : ℤ). i ∷ []) (to_z-of_z w64 c.in-Some.rowid fits)
    ∙ sym (point_ids table c.args.plan.now c.known.ensures c.requires.plan c.requires.point c.in-Some.rowid (sym c.point.ensures.rowid ∙ c.in-Some.is))) c.only.ensures

pub returns-in-None : goal.returns-in-None
returns-in-None c = c.new.ensures ∙ sym (no_ids c.args.table.now.table c.args.plan.now (sym c.point.ensures.rowid ∙ c.in-None.is))
