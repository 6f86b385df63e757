use Rattle.std.proofs.Common.{◌≡◌, ◌∙◌, List, ap, subst, length, ◌<◌, ◌≤◌, get_or}
use Rattle.row_model.specs.Schemas.{is_metadata}
use Rattle.row_model.specs.declared.statement.Constraint.{Constraint}
use Rattle.row_model.specs.declared.statement.Select.{Select}
use Rattle.knn_plan.specs.Levels.{meets_on}
use Rattle.nearest_query.proofs.TermFacts.{term_at, filters_more, filters_end}
use Rattle.nearest_query.proofs.terms.filter_all.Goals as goal

pub filter_by-requires-clause-fits : goal.filter_by-requires-clause-fits
filter_by-requires-clause-fits c =
    let terms = c.as_slice-term-items.ensures ∙ ap (λ (s : Select). s.where_terms) c.select.ensures in
    let less = subst (λ (ts : List Constraint). c.loop-at.at < length ts) terms c.loop-at-test.true in
    let is = subst (λ (ts : List Constraint). c.term-item.result ≡ get_or ts c.loop-at.at c.term-item.result) terms c.term-item.is in
    term_at c.args.table.now.table c.args.plan.now c.requires.ready c.loop-at.at c.term-item.result less is

pub loop-at-preserved : goal.loop-at-preserved
loop-at-preserved c =
    let terms = c.as_slice-term-items.ensures ∙ ap (λ (s : Select). s.where_terms) c.select.ensures in
    let less = subst (λ (ts : List Constraint). c.loop-at.at < length ts) terms c.loop-at-test.true in
    let is = subst (λ (ts : List Constraint). c.term-item.result ≡ get_or ts c.loop-at.at c.term-item.result) terms c.term-item.is in
    record {
      size = c.filter_by.ensures.size;
      cleared = λ s off. c.filter_by.ensures.cleared s (c.loop-at.invariant.cleared s off);
      passed = λ s p there. filters_more (meets_on is_metadata c.args.table.now.table.schema.columns p.row) c.args.plan.now.select.where_terms c.loop-at.at c.term-item.result _ _ _ less is (c.filter_by.ensures.passed s p there) (c.loop-at.invariant.passed s p there);
    }

pub returns-clause-passed : goal.returns-clause-passed
returns-clause-passed c s p there =
    let terms = c.as_slice-term-items.ensures ∙ ap (λ (s : Select). s.where_terms) c.select.ensures in
    let end = subst (λ (ts : List Constraint). length ts ≤ c.loop-at.at) terms c.loop-at-test.false in
    filters_end (meets_on is_metadata c.args.table.now.table.schema.columns p.row) c.args.plan.now.select.where_terms c.loop-at.at _ _ end (c.loop-at.invariant.passed s p there)
