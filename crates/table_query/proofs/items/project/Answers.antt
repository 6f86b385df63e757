use Rattle.std.proofs.Common.{rules, ◌≡◌, ◌∙◌, List, Some, ℕ, ◌+◌, ◌≤◌, ap, sym, subst}
use Rattle.std.specs.List.{AllByRecursion, count_by}
use Rattle.std.specs.Prelude.{OnOk, map}
use Rattle.std.proofs.lemmas.Result.{IfOk-weaker}
use Rattle.vec_base.specs.Counts.{summed}
use Rattle.row_model.specs.Answer.{item}
use Rattle.row_model.specs.Valid.{is_valid_row}
use Rattle.row_model.specs.declared.schema.Column.{Column}
use Rattle.knn_plan.specs.declared.column.PlannedColumn.{PlannedColumn}
use Rattle.shadow_records.specs.PlacedTables.{row_of}
use Rattle.table_query.specs.Items.{near_at}
use Rattle.table_query.specs.Read.{IsThere}
use Rattle.table_query.proofs.ItemLaws.{is_vector_item, items_found, items_there, row_valid, vectors_counted}
use Rattle.table_query.proofs.items.project.Goals as goal

pub items_of-requires-clause-there : goal.items_of-requires-clause-there
items_of-requires-clause-there c =
    let columns : c.in-Some.view.columns ≡ c.args.table.now.table.schema.columns = search rules in
    let items : c.items.result.now ≡ c.args.plan.now.items = search rules in
    subst (λ (cs : List PlannedColumn). AllByRecursion (λ (p : PlannedColumn). IsThere c.in-Some.view.columns p.place) cs) (sym items)
    (subst (λ (cs : List Column). AllByRecursion (λ (p : PlannedColumn). IsThere cs p.place) c.args.plan.now.items) (sym columns) (items_there c.args.table.now.table.schema.columns c.args.plan.now c.requires.plan))

pub items_of-requires-clause-valid : goal.items_of-requires-clause-valid
items_of-requires-clause-valid c =
    let columns : c.in-Some.view.columns ≡ c.args.table.now.table.schema.columns = search rules in
    let found : row_of c.args.table.now.table.rows c.args.rowid ≡ Some c.in-Some.view.placed = search rules in
    ap (λ (cs : List Column). is_valid_row cs c.in-Some.view.placed.row) columns
    ∙ row_valid c.args.table.now.table.schema.columns c.args.table.now.table.rows c.args.rowid c.in-Some.view.placed c.known.ensures.valid.values found

pub returns-clause-items : goal.returns-clause-items
returns-clause-items c =
    let plan = c.args.plan.now in
    let found : row_of c.args.table.now.table.rows c.args.rowid ≡ Some c.in-Some.view.placed = search rules in
    let near = near_at c.args.distance c.in-Some.view.placed.row in
    let items : c.items.result.now ≡ plan.items = search rules in
    IfOk-weaker _ _ _ (λ values is. items_found c.args.table.now.table.schema.columns plan c.args.distance (row_of c.args.table.now.table.rows c.args.rowid) c.in-Some.view.placed values c.requires.plan found
    (is ∙ ap (map (λ (p : PlannedColumn). item near p.place)) items)) c.items_of.ensures.items

pub returns-clause-reads : goal.returns-clause-reads
returns-clause-reads c =
    let plan = c.args.plan.now in
    let items : c.items.result.now ≡ plan.items = search rules in
    subst (λ (n : ℕ). OnOk c.items_of.result (c.items_of.new.steps.reads ≡ summed c.args.steps.now.reads n))
    (ap (count_by is_vector_item) items ∙ vectors_counted c.args.table.now.table.schema.columns plan c.requires.plan) c.items_of.ensures.reads

pub returns-clause-most : goal.returns-clause-most
returns-clause-most c =
    let plan = c.args.plan.now in
    let items : c.items.result.now ≡ plan.items = search rules in
    subst (λ (n : ℕ). c.items_of.new.steps.reads ≤ c.args.steps.now.reads + n) (ap (count_by is_vector_item) items ∙ vectors_counted c.args.table.now.table.schema.columns plan c.requires.plan) c.items_of.ensures.most
