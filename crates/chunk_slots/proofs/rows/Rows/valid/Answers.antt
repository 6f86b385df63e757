use Rattle.std.proofs.Common.{ap, sym, ◌∙◌, map}
use Rattle.std.specs.Option.{is_some}
use Rattle.chunk_slots.proofs.RowLaws.{which_used}
use Rattle.chunk_slots.proofs.rows.Rows.valid.Goals as goal

pub returns : goal.returns
returns c = sym (which_used c.self.inside.valid c.self.inside.rowids c.self.invariant.0) ∙ ap (map is_some) c.self.view_is
