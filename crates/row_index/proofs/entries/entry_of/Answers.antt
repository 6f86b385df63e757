use Rattle.std.proofs.Common.{Some, sym, ap, ◌∙◌, int_cmp}
use Rattle.std.proofs.lemmas.Cmp.{int_cmp_total}
use Rattle.row_index.specs.declared.entry.Entry.{Entry}
use Rattle.row_index.proofs.KeyLaws.{searchable, found, not_found}
use Rattle.row_index.proofs.entries.entry_of.Goals as goal

pub search-requires : goal.search-requires
search-requires c = searchable int_cmp int_cmp_total (λ (e : Entry). e.rowid) c.args.rowid.now c.args.entries.now c.requires

pub returns-in-Ok : goal.returns-in-Ok
returns-in-Ok c =
    let entry = c.get.result.now in
    sym (
    found int_cmp int_cmp_total (λ (e : Entry). e.rowid) c.args.rowid.now c.args.entries.now c.in-Ok.at entry c.requires c.in-Ok.ensures.within (c.in-Ok.ensures.place entry)
    ∙ ap Some (sym c.get.ensures))

pub returns-in-Err : goal.returns-in-Err
returns-in-Err c = sym (not_found int_cmp (λ (e : Entry). e.rowid) c.args.rowid.now c.args.entries.now c.in-Err.field-0 c.in-Err.ensures.place)
