use Rattle.std.proofs.Common.{◌≡◌, [], get_or, set, length, sym, ap, ◌∙◌, arith}
use Rattle.std.proofs.lemmas.List.{get_or_read}
use Rattle.shared_leaves.specs.Edits.{edited_at}
use Rattle.shared_leaves.specs.inner.Joined.{joined}
use Rattle.shared_leaves.proofs.EditLaws.{edited-joined, holds-joined, length-edited}
use Rattle.shared_leaves.proofs.EndsLaws.{ends-set}
use Rattle.shared_leaves.proofs.leaves.Leaves.edit.Given.{Over}
use Rattle.shared_leaves.proofs.leaves.Leaves.edit.Goals as goal

pub edit-requires-clause-takes : goal.edit-requires-clause-takes
edit-requires-clause-takes g c =
    let xss = c.self.inside.leaves.items in
    let k = c.find-leaf.result.0 in
    let lt = rw c.as_slice.ensures.value at c.find-leaf.ensures.leaf in
    let item = rw c.as_slice.ensures.value at c.find-leaf.ensures.item in
    let now : c.index_mut.result.now ≡ get_or xss k [] = get_or_read xss k _ lt c.index_mut.ensures.value [] in
    rw now (holds-joined _ xss k c.find-leaf.result.1 c.args.at lt item (rw c.self.view_is c.requires.takes))

same_length : (g : Over) (c : goal.In_ok-edit g) → length c.edit.new.self ≡ length (get_or c.self.inside.leaves.items c.find-leaf.result.0 [])
same_length g c =
    let xss = c.self.inside.leaves.items in
    let lt = rw c.as_slice.ensures.value at c.find-leaf.ensures.leaf in
    let now = get_or_read xss c.find-leaf.result.0 c.index_mut.result.now lt c.index_mut.ensures.value [] in
    ap length (c.in_ok-edit.ensures {u = tt}) ∙ length-edited _ c.find-leaf.result.1 c.index_mut.result.now ∙ ap length now

after : (g : Over) (c : goal.In_ok-edit g) → joined (set c.self.inside.leaves.items c.find-leaf.result.0 c.edit.new.self) ≡ edited_at (g.E.Edit.edited c.args.change.now) c.args.at (joined c.self.inside.leaves.items)
after g c =
    let xss = c.self.inside.leaves.items in
    let k = c.find-leaf.result.0 in
    let at = c.find-leaf.result.1 in
    let lt = rw c.as_slice.ensures.value at c.find-leaf.ensures.leaf in
    let within = rw c.as_slice.ensures.value at c.find-leaf.ensures.place in
    let item = rw c.as_slice.ensures.value at c.find-leaf.ensures.item in
    let now : c.index_mut.result.now ≡ get_or xss k [] = get_or_read xss k _ lt c.index_mut.ensures.value [] in
    let new : c.edit.new.self ≡ edited_at (g.E.Edit.edited c.args.change.now) at (get_or xss k []) = c.in_ok-edit.ensures {u = tt} ∙ ap (edited_at _ at) now in
    ap (λ q. joined (set xss k q)) new ∙ edited-joined _ xss k at c.args.at lt within item

pub invariant_of-self-2 : goal.invariant_of-self-2
invariant_of-self-2 g c =
    let n = ap length (after g c) ∙ length-edited _ c.args.at (joined c.self.inside.leaves.items) in
    (omega (arith, n, c.self.invariant.0), c.self.invariant.1 ∙ sym (ends-set 0 c.self.inside.leaves.items c.find-leaf.result.0 c.edit.new.self (same_length g c)))

pub returns : goal.returns
returns g c = after g c ∙ ap (edited_at _ c.args.at) c.self.view_is
