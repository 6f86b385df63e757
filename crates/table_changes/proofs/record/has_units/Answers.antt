use Rattle.std.proofs.Common.{◌∙◌, sym}
use Rattle.table_changes.proofs.UnitLaws.{some_body}
use Rattle.table_changes.proofs.record.has_units.Goals as goal

pub returns : goal.returns
returns c = c.is_some.ensures ∙ c.slots.ensures.there ∙ sym (some_body c.args.table.now.table c.args.kept.now c.args.key.now c.args.chunk c.requires.of c.requires.chunk)
