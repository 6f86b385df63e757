use Rattle.std.proofs.Common.{map, ap, sym, ◌∙◌}
use Rattle.std.specs.Option.{is_some}
use Rattle.chunk_slots.proofs.SlotLaws.{which_used}
use Rattle.chunk_slots.proofs.chunk.Chunk.valid.Goals as goal

pub returns : goal.returns
returns c = c.valid.ensures ∙ sym (which_used c.self.inside.columns.items 0 c.self.inside.rows) ∙ ap (λ chunk. map is_some chunk.slots) c.self.view_is
