use Rattle.std.proofs.Common.{rules, ◌≡◌, ◌∙◌, ◌∷◌, ◌++◌, ℤ, List, [], ap, ap₂, sym, subst, w64, SFits, Some, pos, map, take}
use Rattle.std.specs.Prelude.{is_some, slice_index_or}
use Rattle.std.specs.Option.{option_map}
use Rattle.std.proofs.lemmas.Int.{to_z-of_z}
use Rattle.std.proofs.lemmas.List.{map-append, take_more}
use Rattle.vec_base.specs.declared.value.Value.{Value}
use Rattle.shadow_records.specs.PlacedTables.{row_of}
use Rattle.table_answers.specs.Reads.{row_reads}
use Rattle.table_answers.specs.inner.HitRows.{hit_items, or_none}
use Rattle.table_answers.proofs.HitLaws.{reads_more, there_at}
use Rattle.table_query.specs.Items.{items_at}
use Rattle.topk_merge.specs.declared.hit.Hit.{Hit}
use Rattle.table_answers.proofs.nearest.hit_rows.Goals as goal

abbrev no_hit : Hit
no_hit = record { distance = 0; rowid = pos 0 }

pub project-requires-clause-there : goal.project-requires-clause-there
project-requires-clause-there c =
    let table = c.args.table.now.table in
    let hit = slice_index_or c.args.hits.now c.loop-hit.hit-index no_hit in
    let fits : SFits w64 hit.rowid = search rules in
    ap (λ (i : ℤ). is_some (row_of table.rows i)) (to_z-of_z w64 hit.rowid fits) ∙ there_at table c.args.hits.now c.loop-hit.hit-index no_hit c.loop-hit-test.true c.requires.there

pub loop-hit-preserved : goal.loop-hit-preserved
loop-hit-preserved c =
    let table = c.args.table.now.table in
    let plan = c.args.plan.now in
    let i = c.loop-hit.hit-index in
    let hit = slice_index_or c.args.hits.now i no_hit in
    let fits : SFits w64 hit.rowid = search rules in
    let made = subst (λ (r : ℤ). option_map (items_at table.schema.columns plan.select.items hit.distance) (row_of table.rows r) ≡ Some c.in_ok-project.field-0) (to_z-of_z w64 hit.rowid fits) (c.in_ok-project.ensures {u = tt}).items in
    let items : hit_items table plan.select.items hit ≡ c.in_ok-project.field-0 = ap or_none made in
    record {
      rows = (c.in_ok-push.ensures {u = tt}).items
          ∙ ap₂ (λ (xs : List (List Value)) (x : List Value). xs ++ x ∷ []) c.loop-hit.invariant.rows (sym items)
          ∙ sym (ap (map (hit_items table plan.select.items)) (take_more c.args.hits.now i no_hit c.loop-hit-test.true) ∙ map-append (hit_items table plan.select.items) (take i c.args.hits.now) (hit ∷ []));
      reads = reads_more c.args.steps.now.reads c.loop-hit.steps.reads c.project.new.steps.reads (row_reads table plan.select) i c.loop-hit.invariant.reads c.project.ensures.most;
      pieces = c.project.ensures.pieces ∙ c.loop-hit.invariant.pieces;
    }
