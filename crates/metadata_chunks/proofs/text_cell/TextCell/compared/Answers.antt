use Rattle.std.proofs.Common.{ap, ap₂, sym, ◌∙◌}
use Rattle.vec_base.specs.Comparison.{bytes_cmp}
use Rattle.shadow_records.specs.declared.kinds.TheConstants.{TEXT_VIEW_BYTES}
use Rattle.metadata_chunks.specs.inner.Fronts.{front_of}
use Rattle.metadata_chunks.proofs.FrontLaws.{decided, same_fronts, unequal}
use Rattle.metadata_chunks.proofs.text_cell.TextCell.compared.Goals as goal

pub whole_compared-requires : goal.whole_compared-requires
whole_compared-requires c =
    let text = c.self.invariant.first_bytes ∙ ap (front_of TEXT_VIEW_BYTES) c.self.view_is in
    sym text ∙ same_fronts c.self.inside.front c.probe.inside.front (sym c.cmp.ensures ∙ c.in-Equal.is) ∙ c.probe.invariant

pub returns-in_default : goal.returns-in_default
returns-in_default c =
    let text = c.self.invariant.first_bytes ∙ ap (front_of TEXT_VIEW_BYTES) c.self.view_is in
    let other = c.probe.invariant ∙ ap (front_of TEXT_VIEW_BYTES) c.probe.view_is in
    let fronts = c.cmp.ensures ∙ ap₂ bytes_cmp text other in
    fronts ∙ sym (decided TEXT_VIEW_BYTES c.args.self.now c.args.probe.now (unequal (bytes_cmp (front_of TEXT_VIEW_BYTES c.args.self.now) (front_of TEXT_VIEW_BYTES c.args.probe.now)) (λ e. c.in_default.not-Equal (fronts ∙ e))))
