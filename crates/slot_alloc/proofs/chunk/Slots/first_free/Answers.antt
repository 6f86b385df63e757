use Rattle.std.proofs.Common.{◌∙◌, ap}
use Rattle.chunk_bitmap.specs.BitsOfBytes.{first_clear_of}
use Rattle.slot_alloc.proofs.BitLaws.{least_free}
use Rattle.slot_alloc.proofs.chunk.Slots.first_free.Goals as goal

pub returns : goal.returns
returns c = least_free c.args.self.now c.first_clear.result (c.first_clear.ensures ∙ ap first_clear_of c.self.view_is)
