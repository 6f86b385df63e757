use Rattle.std.proofs.Common.{take, length, sym, ap, ◌∙◌, arith}
use Rattle.shared_leaves.specs.inner.Joined.{ends_of}
use Rattle.shared_leaves.proofs.EndsLaws.{length-ends, take-ends}
use Rattle.shared_leaves.proofs.leaves.Leaves.remove.Goals as goal

pub count_ends-requires-clause-front : goal.count_ends-requires-clause-front
count_ends-requires-clause-front g c =
    let xss = c.self.inside.leaves.items in
    let k = c.find-leaf.result.0 in
    ap (take k) c.self.invariant.1 ∙ take-ends 0 xss k
    ∙ ap (λ l. ends_of 0 l) (sym c.take_out.ensures.front ∙ ap (λ l. take k l) (sym c.as_slice-3.ensures.value))

pub count_ends-requires-clause-room : goal.count_ends-requires-clause-room
count_ends-requires-clause-room g c =
    let n = ap length c.self.invariant.1 ∙ length-ends 0 c.self.inside.leaves.items in
    let m = ap length c.as_slice-3.ensures.value in
    omega (arith, n, m, c.take_out.ensures.count)
