use Rattle.std.proofs.Common.{ap, sym, ◌∙◌, map}
use Rattle.std.specs.Option.{is_some}
use Rattle.chunk_bitmap.specs.BitsOfBytes.{first_clear_of}
use Rattle.chunk_slots.proofs.RowLaws.{which_used}
use Rattle.chunk_slots.proofs.rows.Rows.first_free.Goals as goal

pub returns : goal.returns
returns c =
    c.first_clear.ensures
    ∙ ap first_clear_of (sym (which_used c.self.inside.valid c.self.inside.rowids c.self.invariant.0) ∙ ap (map is_some) c.self.view_is)
