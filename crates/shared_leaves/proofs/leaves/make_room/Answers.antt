use Rattle.std.proofs.Common.{◌+◌, ◌<◌, [], take, length, ap, ◌∙◌, arith}
use Rattle.std.proofs.lemmas.List.{get_or_read}
use Rattle.shared_leaves.specs.inner.Joined.{joined}
use Rattle.shared_leaves.proofs.JoinedLaws.{joined-push_nil, joined-insert_nil, take-insert, length-joined_more}
use Rattle.shared_leaves.proofs.leaves.make_room.Goals as goal

pub returns-then-leaf-len-clause-same : goal.returns-then-leaf-len-clause-same
returns-then-leaf-len-clause-same g c =
    ap joined c.in_ok-push.ensures.items
    ∙ joined-push_nil c.args.leaves.now.items c.in_ok-new.field-0 c.in_ok-new.ensures

pub returns-then-at-count-clause-same : goal.returns-then-at-count-clause-same
returns-then-at-count-clause-same g c =
    ap joined c.in_ok-insert.ensures.items
    ∙ joined-insert_nil c.args.leaves.now.items (c.args.leaf + 1) c.in_ok-new-2.field-0 c.in_ok-new-2.ensures

pub returns-then-at-count-clause-item : goal.returns-then-at-count-clause-item
returns-then-at-count-clause-item g c =
    let xss = c.args.leaves.now.items in
    let k = c.args.leaf in
    let lt : k < length xss = omega arith in
    let leaf = ap length (c.as_slice-count.ensures ∙ get_or_read xss k c.index.result.now lt c.index.ensures []) in
    let front = ap (λ xs. length (joined (take (k + 1) xs))) c.in_ok-insert.ensures.items ∙ ap (λ xs. length (joined xs)) (take-insert xss (k + 1) (k + 1) c.in_ok-new-2.field-0 (omega arith) (omega arith)) in
    omega (arith, front, leaf, length-joined_more xss k lt)
