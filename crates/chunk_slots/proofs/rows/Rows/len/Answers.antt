use Rattle.std.proofs.Common.{ap, sym, ◌∙◌, length}
use Rattle.chunk_slots.proofs.RowLaws.{length_rows}
use Rattle.chunk_slots.proofs.rows.Rows.len.Goals as goal

pub returns : goal.returns
returns c = c.len.ensures ∙ sym (length_rows c.self.inside.valid c.self.inside.rowids c.self.invariant.0) ∙ ap length c.self.view_is
