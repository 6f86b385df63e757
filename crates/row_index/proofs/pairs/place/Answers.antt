use Rattle.std.proofs.Common.{◌≡◌, get_or, sym, ap, ◌∙◌, Equal}
use Rattle.std.specs.Cmp.Lexicographic.{slice_cmp}
use Rattle.std.specs.Ordering.{nat_cmp}
use Rattle.std.proofs.lemmas.Cmp.{nat_list_cmp_total}
use Rattle.row_index.specs.declared.entry.IdPair.{IdPair}
use Rattle.row_index.specs.inner.Keys.{IsGap}
use Rattle.row_index.proofs.KeyLaws.{searchable}
use Rattle.row_index.proofs.PairLaws.{rise-set, others-set, own-set, rise-insert, others-insert, own-insert}
use Rattle.row_index.proofs.pairs.place.Goals as goal

pub search-requires : goal.search-requires
search-requires c = searchable (slice_cmp nat_cmp) nat_list_cmp_total (λ (p : IdPair). p.id) c.as_text.result.now c.args.pairs.now c.requires

-- the pair at the place has the id
same : (c : goal.After-set) → slice_cmp nat_cmp (get_or c.args.pairs.now c.in-Ok.at c.args.pair).id c.args.pair.id ≡ Equal
same c =
    ap (slice_cmp nat_cmp (get_or c.args.pairs.now c.in-Ok.at c.args.pair).id) (sym (c.as_text.ensures ∙ c.get.ensures)) ∙ c.in-Ok.ensures.place c.args.pair

pub returns-in-Ok-clause-rise : goal.returns-in-Ok-clause-rise
returns-in-Ok-clause-rise c =
    rise-set c.set.result c.args.pairs.now c.set.new.self c.in-Ok.at c.args.pair c.args.pair c.in-Ok.ensures.within (same c) c.requires c.set.ensures

pub returns-in-Ok-clause-others : goal.returns-in-Ok-clause-others
returns-in-Ok-clause-others c = others-set c.set.result c.args.pairs.now c.set.new.self c.in-Ok.at c.args.pair c.args.pair (same c) c.set.ensures

pub returns-in-Ok-clause-pair : goal.returns-in-Ok-clause-pair
returns-in-Ok-clause-pair c =
    own-set c.set.result c.args.pairs.now c.set.new.self c.in-Ok.at c.args.pair c.args.pair c.in-Ok.ensures.within (same c) c.requires c.set.ensures

-- the place is the gap of the id
gap : (c : goal.After-insert) → IsGap (λ p. slice_cmp nat_cmp p.id c.args.pair.id) c.args.pairs.now c.in-Err.at
gap c = rw (c.as_text.ensures ∙ c.get.ensures) at c.in-Err.ensures.place

pub returns-in-Err-clause-rise : goal.returns-in-Err-clause-rise
returns-in-Err-clause-rise c =
    rise-insert c.insert.result c.args.pairs.now c.insert.new.self c.in-Err.at c.args.pair c.in-Err.ensures.within (gap c) c.requires c.insert.ensures

pub returns-in-Err-clause-others : goal.returns-in-Err-clause-others
returns-in-Err-clause-others c = others-insert c.insert.result c.args.pairs.now c.insert.new.self c.in-Err.at c.args.pair c.in-Err.ensures.within c.insert.ensures

pub returns-in-Err-clause-pair : goal.returns-in-Err-clause-pair
returns-in-Err-clause-pair c =
    own-insert c.insert.result c.args.pairs.now c.insert.new.self c.in-Err.at c.args.pair c.in-Err.ensures.within (gap c) c.requires c.insert.ensures
