use Rattle.std.proofs.Common.{ap, sym, ◌∙◌, map}
use Rattle.std.specs.List.{count_by}
use Rattle.std.specs.Option.{is_some}
use Rattle.chunk_slots.proofs.RowLaws.{which_used}
use Rattle.chunk_slots.proofs.rows.Rows.used.Goals as goal

pub returns : goal.returns
returns c =
    c.self.invariant.1
    ∙ ap (count_by (λ bit. bit)) (sym (which_used c.self.inside.valid c.self.inside.rowids c.self.invariant.0) ∙ ap (map is_some) c.self.view_is)
