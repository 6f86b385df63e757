use Rattle.std.proofs.Common.{◌-◌, ◌<◌, length, get_or, ap, ◌∙◌, arith}
use Rattle.shared_leaves.proofs.EndsLaws.{length-ends, end_before, end_at, list_of, ends_rise}
use Rattle.shared_leaves.proofs.leaves.find.Goals as goal

pub leaf_of-leaf-requires : goal.leaf_of-leaf-requires
leaf_of-leaf-requires g c = record {
  rising = λ k l le lt.
      let n = ap length c.requires.ends ∙ length-ends 0 c.args.leaves.now in
      rw c.requires.ends (ends_rise c.args.leaves.now k l le (omega (arith, n)));
}

pub returns-clause-leaf : goal.returns-clause-leaf
returns-clause-leaf g c =
    let xss = c.args.leaves.now in
    let n = ap length c.requires.ends ∙ length-ends 0 xss in
    let front = rw c.requires.ends at c.leaf_of-leaf.ensures.front in
    list_of xss c.args.index c.leaf_of-leaf.result (omega arith) (omega (arith, n)) c.requires.item front

pub returns-clause-place : goal.returns-clause-place
returns-clause-place g c =
    let xss = c.args.leaves.now in
    let k = c.leaf_of-leaf.result in
    let n = ap length c.requires.ends ∙ length-ends 0 xss in
    let lt : k < length xss = returns-clause-leaf g c in
    let before = ap (λ l. get_or l (k - 1) 0) c.requires.ends ∙ end_before xss k (omega arith) (omega arith) in
    let own = ap (λ l. get_or l k 0) c.requires.ends ∙ end_at xss k lt in
    let above = c.leaf_of-leaf.ensures.back (omega (arith, n)) in
    let below = c.leaf_of-leaf.ensures.front (k - 1) (omega arith) in
    omega (arith, before, own, above, below)

pub returns-clause-item : goal.returns-clause-item
returns-clause-item g c =
    let xss = c.args.leaves.now in
    let k = c.leaf_of-leaf.result in
    let lt : k < length xss = returns-clause-leaf g c in
    let before = ap (λ l. get_or l (k - 1) 0) c.requires.ends ∙ end_before xss k (omega arith) (omega arith) in
    let below = c.leaf_of-leaf.ensures.front (k - 1) (omega arith) in
    omega (arith, before, below)
