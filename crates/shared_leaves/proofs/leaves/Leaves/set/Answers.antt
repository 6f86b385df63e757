use Rattle.std.proofs.Common.{◌≡◌, [], get_or, set, length, sym, ap, ◌∙◌, arith, length-set}
use Rattle.std.proofs.lemmas.List.{get_or_read}
use Rattle.shared_leaves.specs.inner.Joined.{joined}
use Rattle.shared_leaves.proofs.JoinedLaws.{set-joined}
use Rattle.shared_leaves.proofs.EndsLaws.{ends-set}
use Rattle.shared_leaves.proofs.leaves.Leaves.set.Given.{Over}
use Rattle.shared_leaves.proofs.leaves.Leaves.set.Goals as goal

same_length : (g : Over) (c : goal.In_ok-set g) → length c.set.new.self ≡ length (get_or c.self.inside.leaves.items c.find-leaf.result.0 [])
same_length g c =
    let xss = c.self.inside.leaves.items in
    let lt = rw c.as_slice.ensures.value at c.find-leaf.ensures.leaf in
    let now = get_or_read xss c.find-leaf.result.0 c.index_mut.result.now lt c.index_mut.ensures.value [] in
    ap length (c.in_ok-set.ensures {u = tt}) ∙ length-set c.index_mut.result.now c.find-leaf.result.1 c.args.item ∙ ap length now

after : (g : Over) (c : goal.In_ok-set g) → joined (set c.self.inside.leaves.items c.find-leaf.result.0 c.set.new.self) ≡ set (joined c.self.inside.leaves.items) c.args.at c.args.item
after g c =
    let xss = c.self.inside.leaves.items in
    let k = c.find-leaf.result.0 in
    let at = c.find-leaf.result.1 in
    let lt = rw c.as_slice.ensures.value at c.find-leaf.ensures.leaf in
    let within = rw c.as_slice.ensures.value at c.find-leaf.ensures.place in
    let item = rw c.as_slice.ensures.value at c.find-leaf.ensures.item in
    let now : c.index_mut.result.now ≡ get_or xss k [] = get_or_read xss k _ lt c.index_mut.ensures.value [] in
    let new : c.set.new.self ≡ set (get_or xss k []) at c.args.item = c.in_ok-set.ensures {u = tt} ∙ ap (λ l. set l at c.args.item) now in
    ap (λ q. joined (set xss k q)) new ∙ set-joined xss k at c.args.at c.args.item lt within item

pub invariant_of-self-2 : goal.invariant_of-self-2
invariant_of-self-2 g c =
    let n = ap length (after g c) ∙ length-set (joined c.self.inside.leaves.items) c.args.at c.args.item in
    (omega (arith, n, c.self.invariant.0), c.self.invariant.1 ∙ sym (ends-set 0 c.self.inside.leaves.items c.find-leaf.result.0 c.set.new.self (same_length g c)))

pub returns : goal.returns
returns g c = after g c ∙ ap (λ l. set l c.args.at c.args.item) c.self.view_is
