use Rattle.std.proofs.Common.{Some, ap, sym, ◌∙◌, ◌<◌, ◌≤◌, length, arith, rules, w64, SFits}
use Rattle.std.proofs.lemmas.Int.{to_z-of_z}
use Rattle.row_index.specs.declared.entry.Entry.{Entry}
use Rattle.row_index.specs.Entries.{next_after}
use Rattle.row_index.proofs.EntryLaws.{next_at, next_nowhere}
use Rattle.row_index.proofs.index.RowIndex.next.Goals as goal

pub returns-then-at-len : goal.returns-then-at-len
returns-then-at-len c =
    let entry = c.get.result.now in
    let fits : SFits w64 entry.rowid = search rules in
    let within : c.place_after-at.result < length c.self.inside.entries = omega arith in
    ap Some (to_z-of_z w64 entry.rowid fits)
    ∙ sym (
    next_at c.args.after c.self.inside.entries c.place_after-at.result entry c.place_after-at.ensures.place within
    ∙ ap (λ (e : Entry). Some e.rowid) (sym c.get.ensures))
    ∙ ap (next_after c.args.after) c.self.view_is

pub returns-else-at-len : goal.returns-else-at-len
returns-else-at-len c =
    let past : length c.self.inside.entries ≤ c.place_after-at.result = omega arith in
    sym (next_nowhere c.args.after c.self.inside.entries c.place_after-at.result c.place_after-at.ensures.place past) ∙ ap (next_after c.args.after) c.self.view_is
