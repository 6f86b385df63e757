use Rattle.std.proofs.Common.{ℕ, List, subst}
use Rattle.vec_text.proofs.Digits.{encoded_parts}
use Rattle.vec_text.proofs.hexadecimal.put_hex.Goals as goal

pub loop-left-preserved : goal.loop-left-preserved
loop-left-preserved g c end others =
    c.loop-left.invariant end
    (subst (λ (part : List ℕ). g.W.Takes.adds part c.loop-left.to end) (encoded_parts 32 _ _ c.loop-left.left.now c.split_at.ensures.front c.split_at.ensures.back)
    (g.met.W.Takes.both _ _ _ _ _ c.in_ok-put_piece.ensures.added others))
