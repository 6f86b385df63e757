use Rattle.std.proofs.Common.{◌∙◌, ap}
use Rattle.knn_plan.specs.Plans.{target_among}
use Rattle.knn_plan.proofs.TargetLaws.{target_planned}
use Rattle.knn_plan.proofs.plan.planned.Goals as goal

pub returns-clause-plan : goal.returns-clause-plan
returns-clause-plan c =
    let columns = c.args.columns.now in
    let same = c.as_slice-terms.ensures in
    record {
      checked = c.requires.checked;
      terms = rw same at c.term_columns.ensures;
      items = c.item_columns.ensures;
      shape = c.shape_of.ensures;
      target = ap (target_among c.args.select.where_terms) (rw same at c.term_columns.ensures) ∙ target_planned columns c.args.select.where_terms;
      count = rw same at c.count_wanted.ensures;
      by_row = rw same at c.some_on_rows.ensures;
      by_distance = rw same at c.some_on_distance.ensures;
      point = rw same at c.point_term.ensures;
      listed = rw same at c.list_term.ensures;
      start = rw same at c.start_term.ensures;
    }
