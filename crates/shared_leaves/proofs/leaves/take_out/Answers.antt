use Rattle.std.proofs.Common.{◌≡◌, ◌+◌, [], get_or, set, take, length, ap, ◌∙◌, refl, ◌<◌, arith}
use Rattle.std.specs.List.{remove}
use Rattle.std.proofs.lemmas.List.{get_or_read}
use Rattle.shared_leaves.specs.inner.Joined.{joined}
use Rattle.shared_leaves.proofs.JoinedLaws.{remove-joined, joined-remove_one}
use Rattle.shared_leaves.proofs.leaves.take_out.Goals as goal

pub returns-then-as_slice-eq1-clause-items : goal.returns-then-as_slice-eq1-clause-items
returns-then-as_slice-eq1-clause-items g c =
    let xss = c.args.leaves.now.items in
    let k = c.args.leaf in
    let lt : k < length xss = omega (arith, c.requires.leaf) in
    let one = ap length (c.as_slice.ensures ∙ get_or_read xss k c.index.result.now lt c.index.ensures []) in
    ap joined c.remove.ensures.items
    ∙ joined-remove_one xss k c.args.at (length (joined (take k xss)) + c.args.at) lt (omega (arith, one)) c.requires.place refl

pub returns-clause-items : goal.returns-clause-items
returns-clause-items g c =
    let xss = c.args.leaves.now.items in
    let k = c.args.leaf in
    let lt : k < length xss = omega (arith, c.requires.leaf) in
    let now = get_or_read xss k c.index_mut.result.now lt c.index_mut.ensures.value [] in
    let new : c.remove-2.new.self ≡ remove (get_or xss k []) c.args.at = c.in_ok-remove.ensures ∙ ap (λ l. remove l c.args.at) now in
    ap (λ q. joined (set xss k q)) new
    ∙ remove-joined xss k c.args.at (length (joined (take k xss)) + c.args.at) lt c.requires.place refl
