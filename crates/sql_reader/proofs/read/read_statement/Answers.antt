use Rattle.std.proofs.Common.{◌≡◌, List, Result, Ok, Err, sym, ◌∙◌, ap, subst}
use Rattle.std.specs.Prelude.{IfOk, MatchOption}
use Rattle.std.proofs.lemmas.Result.{err_from_is_err_and}
use Rattle.vec_base.specs.declared.refusal.Refusal.{Refusal}
use Rattle.vec_base.specs.declared.value.Value.{Value}
use Rattle.row_model.specs.WellFormed.{IsWellFormed}
use Rattle.row_model.specs.declared.statement.Statement.{Statement}
use Rattle.sql_reader.specs.GivenStatements.{uses}
use Rattle.sql_reader.specs.inner.PartMeanings.{IsStatementMeaning}
use Rattle.sql_reader.specs.StatementReading.{IsParameterFault, ParametersFit}
use Rattle.sql_reader.proofs.Answering.{ends_whole, failing_answered, given_answered, long_answered}
use Rattle.sql_reader.proofs.read.read_statement.Goals as goal

pub returns-then-text-gt-MOST_TEXT_BYTES-clause-exact : goal.returns-then-text-gt-MOST_TEXT_BYTES-clause-exact
returns-then-text-gt-MOST_TEXT_BYTES-clause-exact c = long_answered c.args.text.now c.args.params.now c.if-text-gt-MOST_TEXT_BYTES.true

pub returns-in_err-given-clause-exact : goal.returns-in_err-given-clause-exact
returns-in_err-given-clause-exact c =
    let p = err_from_is_err_and c.from_residual.result c.from_residual.ensures.1 in
    failing_answered c.args.text.now c.args.params.now c.in_err-given.field-0.0 c.from_residual.result (p.1 ∙ ap Err p.2) c.if-text-gt-MOST_TEXT_BYTES.false c.in_err-given.ensures.refusal

pub returns-clause-exact : goal.returns-clause-exact
returns-clause-exact c =
    given_answered c.args.text.now c.args.params.now c.in_ok-given.given c.statement_of.result c.in-Ok.fault c.count_fault-count.result c.answered.result c.answered.ensures.given
    c.if-text-gt-MOST_TEXT_BYTES.false c.in_ok-given.ensures.spelled
    (subst (λ (p : List Value). IsStatementMeaning p c.in_ok-given.given c.statement_of.result) c.as_slice-2.ensures c.statement_of.ensures)
    (subst (λ (p : List Value). MatchOption c.in-Ok.fault (ParametersFit p (uses c.in_ok-given.given)) (λ index. IsParameterFault p (uses c.in_ok-given.given) index)) c.as_slice.ensures c.in-Ok.ensures)
    c.count_fault-count.ensures

pub returns-clause-well_formed : goal.returns-clause-well_formed
returns-clause-well_formed c =
    subst (λ (r : Result Statement Refusal). IfOk r (λ statement. IsWellFormed statement)) (sym c.answered.ensures.given)
    (ends_whole c.args.params.now c.in_ok-given.given c.statement_of.result c.in-Ok.fault c.count_fault-count.result c.in_ok-given.ensures.well_formed
    (subst (λ (p : List Value). IsStatementMeaning p c.in_ok-given.given c.statement_of.result) c.as_slice-2.ensures c.statement_of.ensures)
    (subst (λ (p : List Value). MatchOption c.in-Ok.fault (ParametersFit p (uses c.in_ok-given.given)) (λ index. IsParameterFault p (uses c.in_ok-given.given) index)) c.as_slice.ensures c.in-Ok.ensures)
    c.count_fault-count.ensures)
