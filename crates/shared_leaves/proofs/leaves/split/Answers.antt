use Rattle.std.proofs.Common.{◌+◌, ◌/◌, ◌<◌, [], get_or, set, take, length, ap, ◌∙◌, arith}
use Rattle.std.specs.List.{insert}
use Rattle.std.proofs.lemmas.List.{get_or_read, length-take-le}
use Rattle.std.proofs.lemmas.List.Edits.{length-insert}
use Rattle.shared_leaves.specs.inner.Joined.{joined}
use Rattle.shared_leaves.proofs.JoinedLaws.{joined-split, length-joined_split, parts_of}
use Rattle.shared_leaves.proofs.leaves.split.Goals as goal

pub returns-then-at-half-clause-same : goal.returns-then-at-half-clause-same
returns-then-at-half-clause-same g c =
    let xss = c.args.leaves.now.items in
    let k = c.args.leaf in
    let lt : k < length xss = omega (arith, c.requires.leaf) in
    let both = parts_of c.in_ok-front.front c.in_ok-front.back c.index-2.result.now (get_or xss k []) _ c.in_ok-front.ensures.0 c.in_ok-front.ensures.1 (get_or_read xss k c.index-2.result.now lt c.index-2.ensures []) in
    let fits : k < length (insert xss (k + 1) c.in_ok-front.back) = omega (arith, length-insert xss (k + 1) c.in_ok-front.back (omega arith)) in
    ap (λ xs. joined (set xs k c.in_ok-front.front)) c.in_ok-insert.ensures.items
    ∙ joined-split xss k c.in_ok-front.front c.in_ok-front.back lt both fits

pub returns-else-at-half-clause-same : goal.returns-else-at-half-clause-same
returns-else-at-half-clause-same g c =
    let xss = c.args.leaves.now.items in
    let k = c.args.leaf in
    let lt : k < length xss = omega (arith, c.requires.leaf) in
    let both = parts_of c.in_ok-front.front c.in_ok-front.back c.index-2.result.now (get_or xss k []) _ c.in_ok-front.ensures.0 c.in_ok-front.ensures.1 (get_or_read xss k c.index-2.result.now lt c.index-2.ensures []) in
    let fits : k < length (insert xss (k + 1) c.in_ok-front.back) = omega (arith, length-insert xss (k + 1) c.in_ok-front.back (omega arith)) in
    ap (λ xs. joined (set xs k c.in_ok-front.front)) c.in_ok-insert.ensures.items
    ∙ joined-split xss k c.in_ok-front.front c.in_ok-front.back lt both fits

pub returns-else-at-half-clause-item : goal.returns-else-at-half-clause-item
returns-else-at-half-clause-item g c =
    let xss = c.args.leaves.now.items in
    let k = c.args.leaf in
    let lt : k < length xss = omega (arith, c.requires.leaf) in
    let leaf = ap length (c.as_slice.ensures ∙ get_or_read xss k c.index.result.now lt c.index.ensures []) in
    let leaf-2 = ap length (get_or_read xss k c.index-2.result.now lt c.index-2.ensures []) in
    let half = length-take-le (length c.as_slice.result.now / 2) c.index-2.result.now (omega arith) in
    let left = ap length c.in_ok-front.ensures.0 in
    let fits : k < length (insert xss (k + 1) c.in_ok-front.back) = omega (arith, length-insert xss (k + 1) c.in_ok-front.back (omega arith)) in
    let front = ap (λ xs. length (joined (take (k + 1) (set xs k c.in_ok-front.front)))) c.in_ok-insert.ensures.items ∙ length-joined_split xss k c.in_ok-front.front c.in_ok-front.back lt fits in
    omega (arith, front, left, half)
