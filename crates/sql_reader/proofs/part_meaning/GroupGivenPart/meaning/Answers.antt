use Rattle.std.proofs.Common.{◌∷◌, [], ◌++◌, List, Err, Result, length, refl, sym, ◌∙◌, ap, subst}
use Rattle.std.specs.Prelude.{◌==◌}
use Rattle.std.specs.List.{flat_map}
use Rattle.std.proofs.lemmas.Result.{err_from_is_err_and}
use Rattle.vec_base.specs.declared.value.Value.{Value}
use Rattle.sql_reader.specs.declared.flaw.Flaw.{Flaw}
use Rattle.sql_reader.specs.GivenStatements.{checks_of, uses_of, group_checks, row}
use Rattle.sql_reader.specs.inner.PartMeanings.{AreTaken, IsPartMeaning}
use Rattle.sql_reader.specs.StatementReading.{Each, MeansValue, MeansGroup}
use Rattle.sql_reader.proofs.PartLaws.{flaw_behind}
use Rattle.sql_reader.proofs.part_meaning.GroupGivenPart.meaning.Goals as goal

pub returns-in_err-values : goal.returns-in_err-values
returns-in_err-values c =
    let p = err_from_is_err_and c.from_residual.result c.from_residual.ensures.1 in
    subst (λ (r : Result (List Value) Flaw). IsPartMeaning (group_checks c.args.names c.args.self) (AreTaken c.args.params.now (flat_map uses_of c.args.self.values)) (MeansGroup c.args.params.now c.args.self) r) (sym (p.1 ∙ ap Err p.2))
    (flaw_behind {Y = List Value} {Z = List Value} [] (flat_map checks_of c.args.self.values) (row c.args.self.close (length c.args.self.values == c.args.names) ∷ []) (group_checks c.args.names c.args.self)
    (AreTaken c.args.params.now (flat_map uses_of c.args.self.values)) (AreTaken c.args.params.now (flat_map uses_of c.args.self.values))
    (Each (MeansValue c.args.params.now) c.args.self.values) (MeansGroup c.args.params.now c.args.self) c.in_err-values.field-0.0 tt
    refl c.in_err-values.ensures)
