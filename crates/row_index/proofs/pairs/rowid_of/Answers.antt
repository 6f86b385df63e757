use Rattle.std.proofs.Common.{sym, ap, ◌∙◌, Some, rules, w64, SFits}
use Rattle.std.specs.Cmp.Lexicographic.{slice_cmp}
use Rattle.std.specs.Ordering.{nat_cmp}
use Rattle.std.proofs.lemmas.Cmp.{nat_list_cmp_total}
use Rattle.std.proofs.lemmas.Int.{to_z-of_z}
use Rattle.row_index.specs.declared.entry.IdPair.{IdPair}
use Rattle.row_index.proofs.KeyLaws.{searchable}
use Rattle.row_index.proofs.PairLaws.{paired_at, paired_nowhere}
use Rattle.row_index.proofs.pairs.rowid_of.Goals as goal

pub search-requires : goal.search-requires
search-requires c = searchable (slice_cmp nat_cmp) nat_list_cmp_total (λ (p : IdPair). p.id) c.args.id.now c.args.pairs.now c.requires

pub returns-in-Ok : goal.returns-in-Ok
returns-in-Ok c =
    let pair = c.get.result.now in
    let fits : SFits w64 pair.rowid = search rules in
    ap Some (to_z-of_z w64 pair.rowid fits)
    ∙ sym (
    paired_at c.args.id.now c.args.pairs.now c.in-Ok.at pair c.requires c.in-Ok.ensures.within (c.in-Ok.ensures.place pair)
    ∙ ap (λ (p : IdPair). Some p.rowid) (sym c.get.ensures))

pub returns-in-Err : goal.returns-in-Err
returns-in-Err c = sym (paired_nowhere c.args.id.now c.args.pairs.now c.in-Err.field-0 c.in-Err.ensures.place)
