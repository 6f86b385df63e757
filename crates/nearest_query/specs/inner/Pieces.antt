-- The pieces of a search, and what they leave together.
use Rattle.std.specs.Prelude.{ℕ, zero, suc, ◌/◌, List, [], ◌∷◌, length, map, take, drop}
use Rattle.vec_base.specs.Counts.{raised, summed}
use Rattle.vec_base.specs.Ranks.{all_placed}
use Rattle.knn_plan.specs.Plans.{Planned, PlannedTarget}
use Rattle.shadow_records.specs.PlacedTables.{PlacedTable}
use Rattle.topk_merge.specs.declared.hit.Hit.{Hit}
use Rattle.topk_merge.specs.Hits.{is_before}
use Rattle.topk_merge.specs.Ranking.{Ranking}
use Rattle.nearest_query.specs.inner.Scanning.{hits_over, ticked, with_offers}

-- chunks that are to be scanned, with what was found and counted
pub record PieceState : Type 0 where
  pub table : PlacedTable
  pub plan : Planned
  pub target : PlannedTarget
  pub chunks : List ℕ
  pub best : Ranking
  pub reads : ℕ
  pub pieces : ℕ

abbrev pub hits_of_piece : PieceState → List Hit
hits_of_piece piece = hits_over piece.table piece.plan.select.where_terms piece.target piece.chunks

-- the piece after its scan
abbrev pub piece_scanned : PieceState → PieceState
piece_scanned piece = record piece {
  best = with_offers piece.table.schema.columns piece.plan.select.where_terms piece.best (hits_of_piece piece);
  reads = ticked piece.reads (length (hits_of_piece piece));
}

-- the chunks in runs, as many as there are pieces
abbrev pub parts_of : ℕ → List ℕ → List (List ℕ)
parts_of zero chunks = []
parts_of (suc n) chunks = take (length chunks / suc n) chunks ∷ parts_of n (drop (length chunks / suc n) chunks)

-- a piece before its scan
abbrev pub new_piece : PlacedTable → Planned → PlannedTarget → ℕ → List ℕ → PieceState
new_piece table plan target k chunks =
    record { table = table; plan = plan; target = target; chunks = chunks; best = record { room = k; hits = [] }; reads = 0; pieces = 0 }

abbrev pub new_pieces : PlacedTable → Planned → PlannedTarget → ℕ → List (List ℕ) → List PieceState
new_pieces table plan target k parts = map (new_piece table plan target k) parts

-- so many pieces are counted
abbrev pub parted : ℕ → ℕ → ℕ
parted pieces zero = pieces
parted pieces (suc n) = parted (raised pieces) n

-- the first hits of those of all pieces
abbrev pub best_of : ℕ → List Hit → List PieceState → List Hit
best_of k hits [] = hits
best_of k hits (piece ∷ pieces) = best_of k (take k (all_placed is_before hits piece.best.hits)) pieces

-- the reads of all pieces
abbrev pub reads_of : ℕ → List PieceState → ℕ
reads_of reads [] = reads
reads_of reads (piece ∷ pieces) = reads_of (summed reads piece.reads) pieces

-- and their numbers of pieces
abbrev pub pieces_of : ℕ → List PieceState → ℕ
pieces_of count [] = count
pieces_of count (piece ∷ pieces) = pieces_of (summed count piece.pieces) pieces
