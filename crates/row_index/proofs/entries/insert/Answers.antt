use Rattle.std.proofs.Common.{ap, ◌∙◌, sym, int_cmp, cond, is_ok}
use Rattle.std.proofs.lemmas.Bool.{false≢true}
use Rattle.std.proofs.lemmas.Cmp.{int_cmp_total}
use Rattle.row_index.specs.declared.entry.Entry.{Entry}
use Rattle.row_index.proofs.EntryLaws.{has_rowid_at, rise_inserted, with_entry-insert}
use Rattle.row_index.proofs.KeyLaws.{searchable}
use Rattle.row_index.proofs.entries.insert.Goals as goal

pub search-requires : goal.search-requires
search-requires c = searchable int_cmp int_cmp_total (λ (e : Entry). e.rowid) c.args.entry.rowid c.args.entries.now c.requires.rising

pub unreachable-requires : goal.unreachable-requires
unreachable-requires c =
    let entry = c.args.entry in
    false≢true (sym c.requires.fresh ∙ has_rowid_at entry.rowid c.args.entries.now c.in-Ok.field-0 entry c.in-Ok.ensures.within (c.in-Ok.ensures.place entry))

pub returns-clause-entries : goal.returns-clause-entries
returns-clause-entries c =
    c.insert.ensures
    ∙ ap (λ l. cond (is_ok c.insert.result) l c.args.entries.now) (sym (with_entry-insert c.args.entry c.args.entries.now c.in-Err.at c.in-Err.ensures.within c.in-Err.ensures.place))

pub returns-clause-rise : goal.returns-clause-rise
returns-clause-rise c = rise_inserted c.insert.result c.args.entries.now c.insert.new.self c.in-Err.at c.args.entry c.in-Err.ensures.within c.in-Err.ensures.place c.requires.rising c.insert.ensures
