use Rattle.std.proofs.Common.{rules, ◌≡◌, ◌∙◌, ◌∷◌, ◌++◌, ℤ, List, [], ap, sym, subst, w64, SFits, Some, None}
use Rattle.std.specs.Prelude.{is_some}
use Rattle.std.specs.Option.{option_map}
use Rattle.std.proofs.lemmas.Int.{to_z-of_z}
use Rattle.vec_base.specs.declared.value.Value.{Value}
use Rattle.row_model.specs.Answer.{number_in}
use Rattle.shadow_records.specs.PlacedTables.{row_of}
use Rattle.table_answers.proofs.PointFacts.{none_found, none_wanted, one_found, one_there}
use Rattle.table_query.proofs.PointLaws.{the_answer}
use Rattle.table_query.specs.Items.{items_at}
use Rattle.table_answers.proofs.point.point_rows.Goals.{in-Some+in_ok-project+in_ok-push, in_default}
use Rattle.table_answers.proofs.point.point_rows.Goals as goal

pub returns-then-eq-clause-rows : goal.returns-then-eq-clause-rows
returns-then-eq-clause-rows c =
    let zero_is : option_map number_in c.args.plan.now.select.limit ≡ Some 0 = search rules in
    c.new-rows.ensures ∙ none_wanted c.args.table.now.table c.args.plan.now c.requires.plan c.requires.point zero_is

pub project-requires-clause-there : goal.project-requires-clause-there
project-requires-clause-there c =
    let table = c.args.table.now.table in
    let fits : SFits w64 c.in-Some.rowid = search rules in
    let found : the_answer table c.args.plan.now ≡ Some c.in-Some.rowid = sym c.point.ensures.rowid ∙ c.in-Some.is in
    ap (λ (i : ℤ). is_some (row_of table.rows i)) (to_z-of_z w64 c.in-Some.rowid fits) ∙ one_there table c.args.plan.now c.known.ensures c.requires.plan c.requires.point c.in-Some.rowid found

pub returns-clause-rows : goal.returns-clause-rows
returns-clause-rows c =
    let table = c.args.table.now.table in
    let plan = c.args.plan.now in
    let some : option_map number_in plan.select.limit ≡ Some 0 → ⊥ = search rules in
    elim c.match-point.branch [
      | in-Some+in_ok-project+in_ok-push w ↦
          let fits : SFits w64 w.in-Some.rowid = search rules in
          let found : the_answer table plan ≡ Some w.in-Some.rowid = sym c.point.ensures.rowid ∙ w.in-Some.is in
          let made = subst (λ (i : ℤ). option_map (items_at table.schema.columns plan.select.items 0) (row_of table.rows i) ≡ Some w.in_ok-project.field-0) (to_z-of_z w64 w.in-Some.rowid fits) (w.in_ok-project.ensures {u = tt}).items in
          w.rows-is ∙ (w.in_ok-push.ensures {u = tt}).ok ∙ ap (λ (rows : List (List Value)). rows ++ w.in_ok-project.field-0 ∷ []) c.new-rows.ensures
          ∙ one_found table plan c.known.ensures c.requires.plan c.requires.point some w.in-Some.rowid found w.in_ok-project.field-0 made
      | in_default w ↦
          let found : the_answer table plan ≡ None = sym c.point.ensures.rowid ∙ w.in_default.is in
          w.rows-is ∙ c.new-rows.ensures ∙ none_found table plan c.requires.plan c.requires.point found
    ]
