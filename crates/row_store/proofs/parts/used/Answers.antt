use Rattle.std.proofs.Common.{ap, ◌∙◌}
use Rattle.std.specs.List.{count_by}
use Rattle.std.specs.Prelude.{is_some}
use Rattle.row_store.proofs.SlotLaws.{count-plain}
use Rattle.row_store.proofs.parts.used.Goals as goal

pub returns : goal.returns
returns c = c.used.ensures ∙ ap (λ chunk. count_by is_some chunk.slots) c.slots.ensures ∙ count-plain c.args.slots.now.slots
