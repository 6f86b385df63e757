use Rattle.std.proofs.Common.{Some, sym, ap, ◌∙◌}
use Rattle.std.specs.Cmp.Lexicographic.{slice_cmp}
use Rattle.std.specs.Ordering.{nat_cmp}
use Rattle.std.proofs.lemmas.Cmp.{nat_list_cmp_total}
use Rattle.row_index.specs.declared.entry.IdPair.{IdPair}
use Rattle.row_index.proofs.KeyLaws.{searchable}
use Rattle.row_index.proofs.PairLaws.{rise-remove, others-remove}
use Rattle.row_index.proofs.pairs.remove.Goals as goal

pub search-requires : goal.search-requires
search-requires c = searchable (slice_cmp nat_cmp) nat_list_cmp_total (λ (p : IdPair). p.id) c.as_text.result.now c.args.pairs.now c.requires

pub returns-clause-rise : goal.returns-clause-rise
returns-clause-rise c = rise-remove c.remove.result c.args.pairs.now c.remove.new.self c.in-Ok.at c.requires c.remove.ensures

pub returns-clause-others : goal.returns-clause-others
returns-clause-others c other differ =
    let text = c.as_text.ensures ∙ c.get.ensures in
    others-remove c.remove.result c.args.pairs.now c.remove.new.self c.in-Ok.at c.as_text.result.now c.in-Ok.ensures.within c.in-Ok.ensures.place c.remove.ensures other
    (λ e. differ (c.in-Some.is ∙ ap Some (sym (e ∙ text))))
