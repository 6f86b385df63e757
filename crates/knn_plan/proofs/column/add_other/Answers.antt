use Rattle.std.proofs.Common.{rules}
use Rattle.knn_plan.specs.PlannedColumns.{planned_column}
use Rattle.knn_plan.proofs.OtherLaws.{other_added}
use Rattle.knn_plan.proofs.column.add_other.Goals as goal

pub returns-clause-added : goal.returns-clause-added
returns-clause-added c =
    let columns = c.args.columns.now in
    let column = c.index-columns-index.result in
    other_added (planned_column columns) c.args.planned.now.items c.push.new.self.items columns c.args.index column c.requires.within (search rules) (search rules) (search rules)
