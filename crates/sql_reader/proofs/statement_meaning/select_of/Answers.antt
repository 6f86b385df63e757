use Rattle.std.proofs.Common.{List, Option, ◌++◌}
use Rattle.vec_base.specs.declared.value.Value.{Value}
use Rattle.row_model.specs.declared.statement.Constraint.{Constraint}
use Rattle.row_model.specs.declared.statement.Select.{Select}
use Rattle.sql_reader.specs.inner.PartMeanings.{AreTaken, term_checks, term_uses, limit_checks, limit_uses}
use Rattle.sql_reader.specs.StatementReading.{Each, EachOption, MeansTerm, MeansValue, MeansSelect}
use Rattle.sql_reader.proofs.PartLaws.{first_fails, second_fails}
use Rattle.sql_reader.proofs.statement_meaning.select_of.Goals as goal

pub returns-in_err-where_terms : goal.returns-in_err-where_terms
returns-in_err-where_terms c =
    let given = c.args.given in
    first_fails {Y = List Constraint} {Z = Select} (term_checks given.where_terms) (limit_checks given.limit)
    (AreTaken c.args.params.now (term_uses given.where_terms)) (AreTaken c.args.params.now (term_uses given.where_terms ++ limit_uses given.limit))
    (Each (MeansTerm c.args.params.now) given.where_terms) (MeansSelect c.args.params.now given) c.in_err-where_terms.field-0.0 c.from_residual.result
    c.from_residual.ensures.1 c.in_err-where_terms.ensures

pub returns-in_err-limit : goal.returns-in_err-limit
returns-in_err-limit c =
    let given = c.args.given in
    second_fails {Y = Option Value} {Z = Select} (term_checks given.where_terms) (limit_checks given.limit)
    (AreTaken c.args.params.now (limit_uses given.limit)) (AreTaken c.args.params.now (term_uses given.where_terms ++ limit_uses given.limit))
    (EachOption (MeansValue c.args.params.now) given.limit) (MeansSelect c.args.params.now given) c.in_err-limit.field-0.0 c.from_residual-in_err-limit.result
    c.from_residual-in_err-limit.ensures.1 c.in_ok-where_terms.ensures.0 c.in_err-limit.ensures
