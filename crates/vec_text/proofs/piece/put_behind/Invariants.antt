-- The texts before the next one are written.
use Rattle.std.proofs.Common.{take}
use Rattle.vec_text.specs.SeparatedTexts.{behind}
use Rattle.vec_text.proofs.piece.put_behind.Given as goal

abbrev pub invariant-loop-piece : goal.invariant-loop-piece
invariant-loop-piece g l = g.W.Takes.adds (behind l.fn.separator g.P.Piece.text_of (take l.piece-index l.pieces)) l.fn.to l.to
