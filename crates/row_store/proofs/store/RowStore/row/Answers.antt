use Rattle.std.proofs.Common.{ap, ◌∙◌}
use Rattle.row_store.proofs.ReadLaws.{slots-shape, if_some-more}
use Rattle.row_store.proofs.store.RowStore.row.Goals as goal

pub returns-clause-size : goal.returns-clause-size
returns-clause-size c =
    let store = c.self.inside in
    if_some-more _ _ c.row_with.result (λ row is. (slots-shape store.shape store.rows.parts row.chunk row.slots.now c.self.invariant.shapes is).long ∙ ap (λ s. s.size) c.self.view_is) c.row_with.ensures.slots

pub returns-clause-widths : goal.returns-clause-widths
returns-clause-widths c =
    let store = c.self.inside in
    if_some-more _ _ c.row_with.result (λ row is. (slots-shape store.shape store.rows.parts row.chunk row.slots.now c.self.invariant.shapes is).wide ∙ ap (λ s. s.widths) c.self.view_is) c.row_with.ensures.slots

pub returns-clause-kinds : goal.returns-clause-kinds
returns-clause-kinds c =
    let store = c.self.inside in
    if_some-more _ _ c.row_with.result (λ row is. (slots-shape store.shape store.rows.parts row.chunk row.slots.now c.self.invariant.shapes is).celled ∙ ap (λ s. s.kinds) c.self.view_is) c.row_with.ensures.slots
