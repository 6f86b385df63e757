use Rattle.std.proofs.Common.{rules, ◌∙◌, List, subst, sym, ℕ, ◌+◌, ◌≤◌, refl}
use Rattle.std.specs.List.{count_by}
use Rattle.vec_base.specs.declared.value.Value.{Value}
use Rattle.row_model.specs.declared.schema.Place.TheVariants.{Unknown}
use Rattle.table_query.specs.Items.{near_at}
use Rattle.table_query.proofs.ItemLaws.{is_vector_item, items_more, none_read, reads_more, reads_most}
use Rattle.table_query.proofs.items.items_of.Goals as goal

pub loop-column-init : goal.loop-column-init
loop-column-init c = record { items = (c.in_ok-values.ensures {u = tt}).items; reads = none_read c.args.steps.now.reads (search rules); pieces = refl }

pub returns-in_err-item-clause-most : goal.returns-in_err-item-clause-most
returns-in_err-item-clause-most c =
    subst (λ (n : ℕ). n ≤ c.args.steps.now.reads + count_by is_vector_item c.args.columns.now) (sym c.item.ensures.reads)
    (reads_most c.args.columns.now c.loop-column.column-index (record { place = Unknown; number = 0 }) c.args.steps.now.reads c.loop-column.steps.reads c.loop-column-test.true c.loop-column.invariant.reads)

pub returns-in_err-push-clause-most : goal.returns-in_err-push-clause-most
returns-in_err-push-clause-most c =
    subst (λ (n : ℕ). n ≤ c.args.steps.now.reads + count_by is_vector_item c.args.columns.now) (sym c.item.ensures.reads)
    (reads_most c.args.columns.now c.loop-column.column-index (record { place = Unknown; number = 0 }) c.args.steps.now.reads c.loop-column.steps.reads c.loop-column-test.true c.loop-column.invariant.reads)

pub loop-column-preserved : goal.loop-column-preserved
loop-column-preserved c =
    let columns = c.args.columns.now in
    let i = c.loop-column.column-index in
    record {
      items = ◌∙◌ {A = List Value} ((c.in_ok-push.ensures {u = tt}).items) (items_more (near_at c.args.distance c.args.view.now.placed.row) columns i (record { place = Unknown; number = 0 }) c.loop-column.values.items c.in_ok-item.field-0
          c.loop-column-test.true c.loop-column.invariant.items ((c.in_ok-item.ensures {u = tt}).item));
      reads = c.item.ensures.reads ∙ reads_more columns i (record { place = Unknown; number = 0 }) c.args.steps.now.reads c.loop-column.steps.reads c.loop-column-test.true c.loop-column.invariant.reads;
      pieces = c.item.ensures.pieces ∙ c.loop-column.invariant.pieces;
    }
