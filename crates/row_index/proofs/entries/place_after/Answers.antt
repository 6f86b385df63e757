use Rattle.std.proofs.Common.{int_cmp, arith}
use Rattle.std.proofs.lemmas.Cmp.{int_cmp_total}
use Rattle.row_index.specs.declared.entry.Entry.{Entry}
use Rattle.row_index.proofs.EntryLaws.{after_entry}
use Rattle.row_index.proofs.KeyLaws.{searchable}
use Rattle.row_index.proofs.entries.place_after.Goals as goal

pub search-requires : goal.search-requires
search-requires c = searchable int_cmp int_cmp_total (λ (e : Entry). e.rowid) c.in-Some.rowid c.args.entries.now c.requires

pub overflow_add-result : goal.overflow_add-result
overflow_add-result c = omega (arith, c.in-Ok.ensures.within)

pub returns-in-Ok-clause-place : goal.returns-in-Ok-clause-place
returns-in-Ok-clause-place c = rw c.in-Some.is (after_entry c.in-Some.rowid c.args.entries.now c.in-Ok.at c.requires c.in-Ok.ensures.within c.in-Ok.ensures.place)
