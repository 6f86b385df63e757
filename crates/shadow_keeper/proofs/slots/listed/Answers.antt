use Rattle.std.proofs.Common.{rules, ◌≡◌, ◌∙◌}
use Rattle.shadow_keeper.specs.inner.Slots.{records_in}
use Rattle.shadow_keeper.proofs.RecordLaws.{records-entries}
use Rattle.shadow_keeper.proofs.slots.listed.Goals as goal

pub returns : goal.returns
returns c =
    let whole : c.loop-key.records ≡ records_in c.args.slots.now.entries = search rules in
    whole ∙ records-entries c.args.slots.now.entries c.iter-key-items.ensures.ordered
