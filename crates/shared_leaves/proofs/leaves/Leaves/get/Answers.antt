use Rattle.std.proofs.Common.{◌≡◌, [], get_or, sym, ap, ◌∙◌}
use Rattle.std.proofs.lemmas.List.{get_or_read}
use Rattle.shared_leaves.proofs.JoinedLaws.{get_or-joined}
use Rattle.shared_leaves.proofs.leaves.Leaves.get.Goals as goal

pub returns : goal.returns
returns g c =
    let xss = c.self.inside.leaves.items in
    let k = c.find-leaf.result.0 in
    let at = c.find-leaf.result.1 in
    let d = c.index-as_slice-at.result in
    let lt = rw c.as_slice.ensures.value at c.find-leaf.ensures.leaf in
    let within = rw c.as_slice.ensures.value at c.find-leaf.ensures.place in
    let item = rw c.as_slice.ensures.value at c.find-leaf.ensures.item in
    let leaf : c.as_slice-3.result.now ≡ get_or xss k [] = c.as_slice-3.ensures ∙ get_or_read xss k _ lt c.index.ensures [] in
    c.index-as_slice-at.is
    ∙ ap (λ l. get_or l at d) leaf
    ∙ sym (get_or-joined xss k at c.args.at d lt within item)
    ∙ ap (λ l. get_or l c.args.at d) c.self.view_is
