use Rattle.std.proofs.Common.{ap, sym, ◌∙◌}
use Rattle.std.specs.FinMap.{insert}
use Rattle.shadow_records.specs.Batches.{patched, patched_in, changed}
use Rattle.shadow_keeper.specs.inner.Edits.{change_of}
use Rattle.shadow_keeper.specs.inner.Slots.{tables_in}
use Rattle.shadow_keeper.proofs.EditLaws.{insert-remove}
use Rattle.shadow_keeper.proofs.slots.make.Goals as goal

pub returns-in-Some-clause-tables : goal.returns-in-Some-clause-tables
returns-in-Some-clause-tables c =
    let tables = tables_in c.args.slots.now.entries in
    c.put-in-Patch.ensures.tables
    ∙ ap (λ t. insert t c.in-Patch.key c.patch.new.self) c.take-in-Patch.ensures.tables
    ∙ insert-remove tables c.in-Patch.key c.patch.new.self
    ∙ ap (insert tables c.in-Patch.key) (c.patch.ensures ∙ ap (patched c.in-Some.body c.in-Patch.at) c.as_slice.ensures)
    ∙ ap (patched_in tables c.in-Patch.key c.in-Patch.at c.in-Patch.bytes) c.in-Some.ensures.body
    ∙ sym (ap (λ edit. changed (change_of edit) tables) c.in-Patch.is)
