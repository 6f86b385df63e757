use Rattle.std.proofs.Common.{length, ap, sym, ◌∙◌}
use Rattle.chunk_slots.proofs.SlotLaws.{length_slots}
use Rattle.chunk_slots.proofs.chunk.Chunk.size.Goals as goal

pub returns : goal.returns
returns c = c.len.ensures ∙ sym (length_slots c.self.inside.columns.items 0 c.self.inside.rows) ∙ ap (λ chunk. length chunk.slots) c.self.view_is
