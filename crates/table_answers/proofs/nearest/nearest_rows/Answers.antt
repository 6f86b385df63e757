use Rattle.std.proofs.Common.{rules, ◌≡◌, ◌+◌, ◌*◌, ◌≤◌, ◌∙◌, ap, List, length, map, arith}
use Rattle.std.specs.List.{list_all}
use Rattle.std.proofs.lemmas.Result.{IfOk-weaker}
use Rattle.vec_base.specs.declared.value.Value.{Value}
use Rattle.row_model.specs.Answer.{answer}
use Rattle.nearest_query.specs.Searches.{nearest_hits, read_rows}
use Rattle.shadow_records.specs.PlacedTables.{plain}
use Rattle.table_answers.specs.Reads.{most_reads, row_reads}
use Rattle.table_answers.specs.inner.HitRows.{hit_items, is_there}
use Rattle.table_answers.proofs.HitLaws.{hits_items, hits_many, hits_there}
use Rattle.table_answers.proofs.nearest.nearest_rows.Goals as goal

pub hit_rows-requires-clause-there : goal.hit_rows-requires-clause-there
hit_rows-requires-clause-there g c =
    let table = c.args.table.now.table in
    let hits : c.as_slice.result.now ≡ nearest_hits table c.args.plan.now.select = search rules in
    ap (list_all (is_there table)) hits ∙ hits_there table c.args.plan.now c.known.ensures.valid.rising c.requires.plan c.requires.nearest

pub returns-clause-rows : goal.returns-clause-rows
returns-clause-rows g c =
    let table = c.args.table.now.table in
    let plan = c.args.plan.now in
    let hits : c.as_slice.result.now ≡ nearest_hits table plan.select = search rules in
    let answered : (rows : List (List Value)) → rows ≡ map (hit_items table plan.select.items) c.as_slice.result.now → rows ≡ answer (plain table) plan.select =
    λ rows is. is ∙ ap (map (hit_items table plan.select.items)) hits ∙ hits_items table plan c.known.ensures.valid.rising c.requires.plan c.requires.nearest in
    IfOk-weaker _ _ _ answered c.hit_rows.ensures.rows

pub returns-clause-reads : goal.returns-clause-reads
returns-clause-reads g c =
    let table = c.args.table.now.table in
    let plan = c.args.plan.now in
    let hits : c.as_slice.result.now ≡ nearest_hits table plan.select = search rules in
    let many : length c.as_slice.result.now ≡ length (answer (plain table) plan.select) = ap length hits ∙ hits_many table plan.select in
    let each : length c.as_slice.result.now * row_reads table plan.select ≡ length (answer (plain table) plan.select) * row_reads table plan.select = ap (λ n. n * row_reads table plan.select) many in
    let before : c.nearest.new.steps.reads ≤ c.args.steps.now.reads + length (read_rows table plan.select.where_terms) = c.nearest.ensures.reads in
    let answered : (rows : List (List Value)) → c.hit_rows.new.steps.reads ≤ c.nearest.new.steps.reads + length c.as_slice.result.now * row_reads table plan.select →
    c.hit_rows.new.steps.reads ≤ c.args.steps.now.reads + most_reads table plan.select =
    λ rows most. omega (arith, most, each, before) in
    IfOk-weaker _ _ _ answered c.hit_rows.ensures.reads
