use Rattle.std.proofs.Common.{Bool, ◌≡◌, ◌∙◌, List, IfOk, ap, subst}
use Rattle.std.specs.Prelude.{map}
use Rattle.row_model.specs.declared.row.Row.{Row}
use Rattle.row_model.specs.Answer.{Near, counts, near_to}
use Rattle.plain_engine.specs.inner.RowHits.{near_at}
use Rattle.plain_engine.proofs.NearLaws.{hits_there, hits_rows}
use Rattle.plain_engine.proofs.nearest.nearest.Goals as goal

pub rows_of-requires-clause-there : goal.rows_of-requires-clause-there
rows_of-requires-clause-there c =
    rw (c.hits.ensures.hits, c.in_ok-best.ensures) (hits_there c.args.target.now c.args.k (λ r. counts c.args.columns.now c.args.terms.now (near_to c.args.target.now r)) c.args.rows.now c.requires.rising)

pub returns : goal.returns
returns c =
    let such : Row → Bool = λ r. counts c.args.columns.now c.args.terms.now (near_to c.args.target.now r) in
    let same = ap (map (near_at c.args.rows.now)) (c.hits.ensures.hits ∙ c.in_ok-best.ensures) ∙ hits_rows c.args.target.now c.args.k such c.args.rows.now c.requires.rising in
    subst (λ (rows : List Near). IfOk c.rows_of.result (λ nears. nears.items ≡ rows)) same c.rows_of.ensures
