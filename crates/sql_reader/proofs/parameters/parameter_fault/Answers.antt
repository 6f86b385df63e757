use Rattle.std.proofs.Common.{◌≤◌, ℕ, List, [], length, Option, None, refl, subst, sym, arith}
use Rattle.std.specs.Prelude.{MatchOption}
use Rattle.sql_reader.specs.GivenStatements.{Use, uses}
use Rattle.sql_reader.specs.inner.PartMeanings.{ordered_uses}
use Rattle.sql_reader.specs.inner.ParameterSummaries.{Summarizes, fault_of}
use Rattle.sql_reader.specs.StatementReading.{ParametersFit, IsParameterFault, greatest}
use Rattle.sql_reader.proofs.MeaningLaws.{formed_small, uses_ordered}
use Rattle.sql_reader.proofs.ParameterLaws.{summary_none, fault_told}
use Rattle.sql_reader.proofs.parameters.parameter_fault.Goals as goal

pub fault_of-requires : goal.fault_of-requires
fault_of-requires c =
    let known : Summarizes c.args.params.now (ordered_uses c.args.given.now) c.in_ok-summary.summary = c.in_ok-summary.ensures [] (summary_none c.args.params.now (record { greatest = 0; untaken = None }) refl refl) in
    let small : greatest (ordered_uses c.args.given.now) ≤ 999 = formed_small c.args.given.now c.requires in
    omega (arith, known.greatest, small)

pub returns : goal.returns
returns c =
    let known : Summarizes c.args.params.now (ordered_uses c.args.given.now) c.in_ok-summary.summary = c.in_ok-summary.ensures [] (summary_none c.args.params.now (record { greatest = 0; untaken = None }) refl refl) in
    subst (λ (o : Option ℕ). MatchOption o (ParametersFit c.args.params.now (uses c.args.given.now)) (λ index. IsParameterFault c.args.params.now (uses c.args.given.now) index)) (sym c.fault_of.ensures)
    (subst (λ (us : List Use). MatchOption (fault_of c.in_ok-summary.summary (length c.args.params.now)) (ParametersFit c.args.params.now us) (λ index. IsParameterFault c.args.params.now us index)) (sym (uses_ordered c.args.given.now))
    (fault_told c.args.params.now (ordered_uses c.args.given.now) c.in_ok-summary.summary known))
