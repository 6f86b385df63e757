use Rattle.std.proofs.Common.{◌≡◌, drop}
use Rattle.nearest_query.specs.inner.Pieces.{best_of, pieces_of, reads_of}
use Rattle.nearest_query.proofs.piece.gather.Given as goal

abbrev pub invariant-loop-piece : goal.invariant-loop-piece
invariant-loop-piece l = record {
  room : l.best.room ≡ l.initial.best.room;
  hits : best_of l.initial.best.room l.best.hits (drop l.piece-index l.pieces) ≡ best_of l.initial.best.room l.initial.best.hits l.pieces;
  reads : reads_of l.steps.reads (drop l.piece-index l.pieces) ≡ reads_of l.initial.steps.reads l.pieces;
  pieces : pieces_of l.steps.pieces (drop l.piece-index l.pieces) ≡ pieces_of l.initial.steps.pieces l.pieces;
}
