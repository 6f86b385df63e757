use Rattle.std.proofs.Common.{map, ap, sym, ◌∙◌}
use Rattle.std.specs.Option.{is_some}
use Rattle.chunk_bitmap.specs.BitsOfBytes.{first_clear_of}
use Rattle.chunk_slots.proofs.SlotLaws.{which_used, first_unused}
use Rattle.chunk_slots.proofs.chunk.Chunk.first_free.Goals as goal

pub returns : goal.returns
returns c =
    c.first_free.ensures
    ∙ ap first_clear_of (sym (which_used c.self.inside.columns.items 0 c.self.inside.rows) ∙ ap (λ chunk. map is_some chunk.slots) c.self.view_is)
    ∙ first_unused 0 c.args.self.now.slots
