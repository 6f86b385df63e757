use Rattle.std.proofs.Common.{◌≡◌, ◌+◌, ◌<◌, ◌++◌, ◌∷◌, [], length, get_or, take, ap, sym, ◌∙◌, arith}
use Rattle.std.specs.Vec.{vec_len, vec_capacity}
use Rattle.std.proofs.lemmas.List.{get_or_read, length-take-le}
use Rattle.shared_leaves.specs.inner.Joined.{joined, ends_of}
use Rattle.shared_leaves.proofs.JoinedLaws.{length-joined_more}
use Rattle.shared_leaves.proofs.EndsLaws.{length-ends, ends_more, joined_upto, ok_picks}
use Rattle.shared_leaves.proofs.leaves.count_ends.Goals as goal

pub overflow_add-end : goal.overflow_add-end
overflow_add-end g c =
    let xss = c.args.leaves.now in
    let i = c.loop-index.index in
    let lt : i < length xss = omega arith in
    let leaf = ap length (c.as_slice-in-loop-index.ensures ∙ get_or_read xss i c.index-leaves-index.result lt c.index-leaves-index.is []) in
    omega (arith, leaf, c.loop-index.invariant.end, joined_upto xss i lt, c.requires.fits)

pub loop-index-preserved : goal.loop-index-preserved
loop-index-preserved g c =
    let xss = c.args.leaves.now in
    let i = c.loop-index.index in
    let lt : i < length xss = omega arith in
    let leaf = ap length (c.as_slice-in-loop-index.ensures ∙ get_or_read xss i c.index-leaves-index.result lt c.index-leaves-index.is []) in
    let n = ap length c.loop-index.invariant.ends ∙ length-ends 0 (take i xss) ∙ length-take-le i xss (omega arith) in
    let left : vec_len c.loop-index.ends < vec_capacity c.loop-index.ends = omega (arith, n, c.loop-index.invariant.room) in
    let end : c.loop-index.end + length c.as_slice-in-loop-index.result.now ≡ length (joined (take i xss)) + length (get_or xss i []) = omega (arith, leaf, c.loop-index.invariant.end) in
    record {
      end = omega (arith, end, length-joined_more xss i lt);
      ends = c.push.ensures.items ∙ ok_picks c.push.result _ _ (c.push.ensures.succeeds left) ∙ ap (λ l. l ++ (c.loop-index.end + length c.as_slice-in-loop-index.result.now) ∷ []) c.loop-index.invariant.ends ∙ ap (λ m. ends_of 0 (take i xss) ++ m ∷ []) end ∙ sym (ends_more xss i lt);
      room = omega (arith, c.loop-index.invariant.room, c.push.ensures.capacity);
    }
