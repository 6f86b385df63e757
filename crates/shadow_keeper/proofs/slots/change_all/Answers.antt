use Rattle.std.proofs.Common.{ap, ◌∙◌}
use Rattle.std.proofs.Common.{map as each}
use Rattle.shadow_records.specs.Batches.{applied}
use Rattle.shadow_keeper.specs.inner.Edits.{change_of, edit_of}
use Rattle.shadow_keeper.specs.inner.Slots.{tables_in}
use Rattle.shadow_keeper.proofs.EditLaws.{all_made, all_applied}
use Rattle.shadow_keeper.proofs.slots.change_all.Goals as goal

pub make_all-requires-clause-applies : goal.make_all-requires-clause-applies
make_all-requires-clause-applies c = rw (c.in-Ok.ensures.edits, c.prepare.ensures.tables) (all_made _ _ c.requires)

pub returns-clause-ok : goal.returns-clause-ok
returns-clause-ok c =
    c.release_all-2.ensures ∙ c.make_all.ensures
    ∙ ap (λ edits. applied (each change_of edits) (tables_in c.prepare.new.slots.entries)) c.in-Ok.ensures.edits
    ∙ ap (λ t. applied (each change_of (each edit_of c.args.changes.now)) t) c.prepare.ensures.tables
    ∙ all_applied c.args.changes.now (tables_in c.args.slots.now.entries)
