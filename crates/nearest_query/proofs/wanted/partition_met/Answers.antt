use Rattle.std.proofs.Common.{◌≡◌, ◌∙◌, List, ap, sym, subst, length, ◌<◌, ◌≤◌, get_or}
use Rattle.std.specs.Option.{option_copied}
use Rattle.row_model.specs.Schemas.{is_partition}
use Rattle.row_model.specs.declared.statement.Constraint.{Constraint}
use Rattle.row_model.specs.declared.statement.Select.{Select}
use Rattle.knn_plan.specs.Levels.{meets_on}
use Rattle.nearest_query.proofs.ChunkLaws.{partition-there, wanted-first}
use Rattle.nearest_query.proofs.PlaceLaws.{first-row}
use Rattle.nearest_query.proofs.TermFacts.{met_end, met_more, met_not, value_at_term}
use Rattle.nearest_query.proofs.wanted.partition_met.Goals as goal

pub returns-then-not-value_met : goal.returns-then-not-value_met
returns-then-not-value_met c =
    let table = c.args.table.now.table in
    let plan = c.args.plan.now in
    let placed = c.requires.ready.1.placed in
    let columns = table.schema.columns in
    let terms = c.as_slice-term-items.ensures ∙ ap (λ (s : Select). s.where_terms) c.select.ensures in
    let less = subst (λ (ts : List Constraint). c.loop-at.at < length ts) terms c.loop-at-test.true in
    let is = subst (λ (ts : List Constraint). c.term-item.result ≡ get_or ts c.loop-at.at c.term-item.result) terms c.term-item.is in
    let first = partition-there table c.args.chunk c.in-Some.values.now (sym (ap option_copied c.in-Some.is) ∙ c.partition.ensures) in
    let there = first-row table.rows c.args.chunk first.0 first.1.0 in
    let met = value_at_term table plan c.requires.ready c.loop-at.at c.term-item.result c.terms-columns.result.now _ c.as_slice.result.now c.args.chunk first.0.slot first.0 less is c.terms-columns.ensures there (c.as_slice.ensures ∙ first.1.1) in
    met_not (meets_on is_partition columns first.0.row) plan.select.where_terms c.loop-at.at c.term-item.result _ less is (sym met ∙ (sym c.value_met.ensures ∙ c.if-not-value_met.true)) (c.loop-at.invariant first.0 c.args.chunk first.0.slot there first.1.1)
    ∙ sym (wanted-first table plan.select.where_terms c.args.chunk first.0 first.1.0)

pub loop-at-preserved : goal.loop-at-preserved
loop-at-preserved c p d s there kept =
    let table = c.args.table.now.table in
    let plan = c.args.plan.now in
    let placed = c.requires.ready.1.placed in
    let columns = table.schema.columns in
    let terms = c.as_slice-term-items.ensures ∙ ap (λ (s : Select). s.where_terms) c.select.ensures in
    let less = subst (λ (ts : List Constraint). c.loop-at.at < length ts) terms c.loop-at-test.true in
    let is = subst (λ (ts : List Constraint). c.term-item.result ≡ get_or ts c.loop-at.at c.term-item.result) terms c.term-item.is in
    let met = value_at_term table plan c.requires.ready c.loop-at.at c.term-item.result c.terms-columns.result.now _ c.as_slice.result.now d s p less is c.terms-columns.ensures there (c.as_slice.ensures ∙ kept) in
    met_more (meets_on is_partition columns p.row) plan.select.where_terms c.loop-at.at c.term-item.result _ less is (sym met ∙ (sym c.value_met.ensures ∙ c.if-not-value_met.false)) (c.loop-at.invariant p d s there kept)

pub returns : goal.returns
returns c =
    let table = c.args.table.now.table in
    let plan = c.args.plan.now in
    let placed = c.requires.ready.1.placed in
    let columns = table.schema.columns in
    let terms = c.as_slice-term-items.ensures ∙ ap (λ (s : Select). s.where_terms) c.select.ensures in
    let end = subst (λ (ts : List Constraint). length ts ≤ c.loop-at.at) terms c.loop-at-test.false in
    let first = partition-there table c.args.chunk c.in-Some.values.now (sym (ap option_copied c.in-Some.is) ∙ c.partition.ensures) in
    let there = first-row table.rows c.args.chunk first.0 first.1.0 in
    met_end (meets_on is_partition columns first.0.row) plan.select.where_terms c.loop-at.at _ end (c.loop-at.invariant first.0 c.args.chunk first.0.slot there first.1.1)
    ∙ sym (wanted-first table plan.select.where_terms c.args.chunk first.0 first.1.0)
