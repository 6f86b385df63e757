use Rattle.std.proofs.Common.{◌≡◌, ◌∙◌, List, ap, sym, subst, length, ◌<◌, ◌≤◌, get_or}
use Rattle.row_model.specs.declared.statement.Constraint.{Constraint}
use Rattle.row_model.specs.declared.statement.Select.{Select}
use Rattle.knn_plan.specs.Levels.{meets_rest}
use Rattle.nearest_query.proofs.TermFacts.{term_at, met_more, met_not, met_end}
use Rattle.nearest_query.proofs.terms.row_terms_met.Goals as goal

pub term_met-requires-clause-fits : goal.term_met-requires-clause-fits
term_met-requires-clause-fits c =
    let terms = c.as_slice-term-items.ensures ∙ ap (λ (s : Select). s.where_terms) c.select.ensures in
    let less = subst (λ (ts : List Constraint). c.loop-at.at < length ts) terms c.loop-at-test.true in
    let is = subst (λ (ts : List Constraint). c.term-item.result ≡ get_or ts c.loop-at.at c.term-item.result) terms c.term-item.is in
    term_at c.args.table.now.table c.args.plan.now c.requires.ready c.loop-at.at c.term-item.result less is

pub returns-then-not-term_met : goal.returns-then-not-term_met
returns-then-not-term_met c p there =
    let terms = c.as_slice-term-items.ensures ∙ ap (λ (s : Select). s.where_terms) c.select.ensures in
    let less = subst (λ (ts : List Constraint). c.loop-at.at < length ts) terms c.loop-at-test.true in
    let is = subst (λ (ts : List Constraint). c.term-item.result ≡ get_or ts c.loop-at.at c.term-item.result) terms c.term-item.is in
    met_not (meets_rest c.args.table.now.table.schema.columns p.row) c.args.plan.now.select.where_terms c.loop-at.at c.term-item.result _ less is (sym (c.term_met.ensures p there) ∙ c.if-not-term_met.true) (c.loop-at.invariant p there)

pub loop-at-preserved : goal.loop-at-preserved
loop-at-preserved c p there =
    let terms = c.as_slice-term-items.ensures ∙ ap (λ (s : Select). s.where_terms) c.select.ensures in
    let less = subst (λ (ts : List Constraint). c.loop-at.at < length ts) terms c.loop-at-test.true in
    let is = subst (λ (ts : List Constraint). c.term-item.result ≡ get_or ts c.loop-at.at c.term-item.result) terms c.term-item.is in
    met_more (meets_rest c.args.table.now.table.schema.columns p.row) c.args.plan.now.select.where_terms c.loop-at.at c.term-item.result _ less is (sym (c.term_met.ensures p there) ∙ c.if-not-term_met.false) (c.loop-at.invariant p there)

pub returns : goal.returns
returns c p there =
    let terms = c.as_slice-term-items.ensures ∙ ap (λ (s : Select). s.where_terms) c.select.ensures in
    let end = subst (λ (ts : List Constraint). length ts ≤ c.loop-at.at) terms c.loop-at-test.false in
    met_end (meets_rest c.args.table.now.table.schema.columns p.row) c.args.plan.now.select.where_terms c.loop-at.at _ end (c.loop-at.invariant p there)
