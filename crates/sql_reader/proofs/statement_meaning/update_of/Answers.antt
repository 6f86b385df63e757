use Rattle.std.proofs.Common.{List, ◌++◌}
use Rattle.row_model.specs.declared.statement.Assign.{Assign}
use Rattle.row_model.specs.declared.statement.Constraint.{Constraint}
use Rattle.row_model.specs.declared.statement.Update.{Update}
use Rattle.sql_reader.specs.inner.PartMeanings.{AreTaken, term_checks, term_uses, set_checks, set_uses}
use Rattle.sql_reader.specs.StatementReading.{Each, MeansAssign, MeansTerm, MeansUpdate}
use Rattle.sql_reader.proofs.PartLaws.{first_fails, second_fails}
use Rattle.sql_reader.proofs.statement_meaning.update_of.Goals as goal

pub returns-in_err-sets : goal.returns-in_err-sets
returns-in_err-sets c =
    first_fails {Y = List Assign} {Z = Update} (set_checks c.args.assigns) (term_checks c.args.terms)
    (AreTaken c.args.params.now (set_uses c.args.assigns)) (AreTaken c.args.params.now (set_uses c.args.assigns ++ term_uses c.args.terms))
    (Each (MeansAssign c.args.params.now) c.args.assigns) (MeansUpdate c.args.params.now c.args.table c.args.assigns c.args.terms) c.in_err-sets.field-0.0 c.from_residual.result
    c.from_residual.ensures.1 c.in_err-sets.ensures

pub returns-in_err-where_terms : goal.returns-in_err-where_terms
returns-in_err-where_terms c =
    second_fails {Y = List Constraint} {Z = Update} (set_checks c.args.assigns) (term_checks c.args.terms)
    (AreTaken c.args.params.now (term_uses c.args.terms)) (AreTaken c.args.params.now (set_uses c.args.assigns ++ term_uses c.args.terms))
    (Each (MeansTerm c.args.params.now) c.args.terms) (MeansUpdate c.args.params.now c.args.table c.args.assigns c.args.terms) c.in_err-where_terms.field-0.0 c.from_residual-in_err-where_terms.result
    c.from_residual-in_err-where_terms.ensures.1 c.in_ok-sets.ensures.0 c.in_err-where_terms.ensures
