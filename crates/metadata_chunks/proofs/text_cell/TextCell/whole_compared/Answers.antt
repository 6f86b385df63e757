use Rattle.std.proofs.Common.{length, ap, sym, ◌∙◌, subst, ◌≤◌}
use Rattle.std.specs.Ordering.{nat_cmp}
use Rattle.shadow_records.specs.declared.kinds.TheConstants.{TEXT_VIEW_BYTES}
use Rattle.metadata_chunks.proofs.FrontLaws.{counted}
use Rattle.metadata_chunks.proofs.text_cell.TextCell.whole_compared.Goals as goal

pub returns-in-None : goal.returns-in-None
returns-in-None c =
    let count = c.self.invariant.count ∙ ap length c.self.view_is in
    c.cmp-in-None.ensures
    ∙ ap (λ n. nat_cmp n (length c.args.text.now)) count
    ∙ sym (counted TEXT_VIEW_BYTES c.args.self.now c.args.text.now c.requires (subst (λ n. n ≤ TEXT_VIEW_BYTES) count (c.self.invariant.short c.in-None.is)))
