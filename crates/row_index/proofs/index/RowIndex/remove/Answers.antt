use Rattle.std.proofs.Common.{◌≡◌, sym, ap, ◌∙◌, int_cmp, w64}
use Rattle.std.proofs.lemmas.Cmp.{int_cmp_total}
use Rattle.std.proofs.lemmas.Int.{to_z-of_z}
use Rattle.row_index.specs.declared.entry.Entry.{Entry}
use Rattle.row_index.specs.Entries.{has_rowid, without}
use Rattle.row_index.proofs.EntryLaws.{has_rowid_nowhere, without-remove, without_nowhere}
use Rattle.row_index.proofs.IdLaws.{entry_removed, held_paired}
use Rattle.row_index.proofs.KeyLaws.{searchable}
use Rattle.row_index.proofs.index.RowIndex.remove.Goals as goal

pub search-requires : goal.search-requires
search-requires c = searchable int_cmp int_cmp_total (λ (e : Entry). e.rowid) _ c.self.inside.entries c.self.invariant.rowids

pub returns-in_default-clause-entries : goal.returns-in_default-clause-entries
returns-in_default-clause-entries c =
    let gap = rw (to_z-of_z w64 c.args.rowid c.ranges.rowid) at c.in_default.ensures.place in
    sym (sym (ap (without c.args.rowid) c.self.view_is) ∙ without_nowhere c.args.rowid c.self.inside.entries c.in_default.field-0 gap ∙ c.self.view_is)

pub returns-in_default-clause-answer : goal.returns-in_default-clause-answer
returns-in_default-clause-answer c =
    let gap = rw (to_z-of_z w64 c.args.rowid c.ranges.rowid) at c.in_default.ensures.place in
    sym (sym (ap (has_rowid c.args.rowid) c.self.view_is) ∙ has_rowid_nowhere c.args.rowid c.self.inside.entries c.in_default.field-0 gap)

-- what is left of the entries
left : (c : goal.Joined-id-2) → c.remove.new.self ≡ without c.args.rowid c.self.inside.entries
left c =
    let there = rw (to_z-of_z w64 c.args.rowid c.ranges.rowid) at c.in-Ok.ensures.place in
    c.in_ok-remove.ensures ∙ sym (without-remove c.args.rowid c.self.inside.entries c.in-Ok.at c.get.result.now c.self.invariant.rowids c.in-Ok.ensures.within there)

pub invariant_of-self-2 : goal.invariant_of-self-2
invariant_of-self-2 c =
    let there = rw (to_z-of_z w64 c.args.rowid c.ranges.rowid) at c.in-Ok.ensures.place in
    let held = held_paired c.in_ok-id.id c.args.rowid c.get.result.now c.self.inside.entries c.in-Ok.at c.self.inside.ids c.self.invariant.paired_ids c.in-Ok.ensures.within c.get.ensures there c.in_ok-id.ensures.same in
    entry_removed c.in_ok-id.id c.args.rowid c.self.inside.entries c.remove.new.self c.self.inside.ids c.remove-2.new.pairs c.self.invariant (left c) held c.remove-2.ensures.rise c.remove-2.ensures.others

pub returns-clause-entries : goal.returns-clause-entries
returns-clause-entries c = left c ∙ ap (without c.args.rowid) c.self.view_is
