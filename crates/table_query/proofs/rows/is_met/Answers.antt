use Rattle.std.proofs.Common.{rules, ◌≡◌, ◌∙◌, List, ap₂}
use Rattle.row_model.specs.Check.{compares_vector, some_term}
use Rattle.row_model.specs.declared.schema.Column.{Column}
use Rattle.row_model.specs.declared.statement.Constraint.{Constraint}
use Rattle.table_query.proofs.ReadLaws.{no_vectors}
use Rattle.table_query.proofs.rows.is_met.Goals as goal

pub meets_all-requires-clause-vectors : goal.meets_all-requires-clause-vectors
meets_all-requires-clause-vectors c =
    let columns : c.in-Some.view.columns ≡ c.args.table.now.table.schema.columns = search rules in
    let terms : c.as_slice.result.now ≡ c.args.plan.now.select.where_terms = search rules in
    ap₂ (λ (cs : List Column) (ts : List Constraint). some_term cs compares_vector ts) columns terms ∙ no_vectors c.args.table.now.table.schema.columns c.args.plan.now c.requires.plan
