use Rattle.std.proofs.Common.{◌+◌, [], ◌∷◌, ◌++◌, List, length, drop, sym, ◌∙◌, ap, refl, subst, Err, Result, rules}
use Rattle.std.specs.List.{flat_map}
use Rattle.std.proofs.lemmas.Result.{err_from_is_err_and}
use Rattle.std.proofs.lemmas.Iterator.Adapters.{YieldsList-from_vec}
use Rattle.std.proofs.lemmas.Iterator.Consumers.{YieldsList-so_far, YieldsList-turn}
use Rattle.sql_reader.specs.declared.flaw.Flaw.{Flaw}
use Rattle.sql_reader.specs.inner.PartMeanings.{AreTaken, IsPartMeaning}
use Rattle.sql_reader.specs.StatementReading.{Each}
use Rattle.sql_reader.proofs.PartLaws.{progress_more, progress_flaw, split_next}
use Rattle.sql_reader.proofs.part.meanings.Goals as goal

pub loop-part-preserved : goal.loop-part-preserved
loop-part-preserved g c =
    progress_more (g.P.GivenPart.checks c.args.names) g.P.GivenPart.uses c.args.params.now (g.P.GivenPart.means c.args.params.now) c.loop-part.yielded (c.loop-part.yielded ++ c.in-Some.part ∷ []) c.in-Some.part c.loop-part.meanings c.push.new.self c.in_ok-meaning.meaning
    c.loop-part.invariant c.in_ok-meaning.ensures refl c.in_ok-push.ensures.ok

pub returns-in_err-meaning : goal.returns-in_err-meaning
returns-in_err-meaning g c =
    let road = YieldsList-from_vec {s = c.into_iter-part-iterator.result} c.args.parts (search rules) (search rules) in
    let p = err_from_is_err_and c.from_residual.result c.from_residual.ensures.1 in
    subst (λ (r : Result (List _) Flaw). IsPartMeaning (flat_map (g.P.GivenPart.checks c.args.names) c.args.parts) (AreTaken c.args.params.now (flat_map g.P.GivenPart.uses c.args.parts)) (Each (g.P.GivenPart.means c.args.params.now) c.args.parts) r) (sym (p.1 ∙ ap Err p.2))
    (progress_flaw (g.P.GivenPart.checks c.args.names) g.P.GivenPart.uses c.args.params.now (g.P.GivenPart.means c.args.params.now) c.loop-part.yielded (drop (length c.loop-part.yielded + 1) c.args.parts) c.args.parts c.in-Some.part c.loop-part.meanings c.in_err-meaning.field-0.0
    c.loop-part.invariant (split_next c.loop-part.yielded c.args.parts c.in-Some.part (YieldsList-so_far road c.loop-part.yielded c.loop-part.part-iterator c.loop-part.yielded_by) (YieldsList-turn road c.loop-part.yielded c.loop-part.part-iterator c.loop-part.yielded_by c.next.result c.next.new.self c.in-Some.part c.in-Some.is c.next.ensures.steps)) c.in_err-meaning.ensures)
