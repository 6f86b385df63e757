use Rattle.std.proofs.Common.{ap, ap₂, ◌∙◌, map, set}
use Rattle.std.proofs.lemmas.List.{map-set}
use Rattle.row_chunks.specs.inner.CellColumns.{column_with}
use Rattle.row_chunks.specs.inner.Held.{value_held}
use Rattle.row_chunks.proofs.auxiliary.AuxiliaryColumn.put.Goals as goal

pub returns : goal.returns
returns c =
    let cells = c.self.inside.cells in
    let cell = c.in_ok-cell.cell in
    ap (λ cs. record { kind = c.self.inside.kind; cells = map value_held cs }) (c.in_ok-set.ensures {u = tt})
    ∙ ap (λ vs. record { kind = c.self.inside.kind; cells = vs }) (map-set value_held cells c.from.result cell ∙ ap₂ (λ i v. set (map value_held cells) i v) c.from.ensures (c.in_ok-cell.ensures {u = tt}))
    ∙ ap (column_with c.args.slot c.args.value.now) c.self.view_is
