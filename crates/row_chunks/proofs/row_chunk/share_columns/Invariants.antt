use Rattle.std.proofs.Common.{◌≡◌, take}
use Rattle.row_chunks.proofs.row_chunk.share_columns.Given as goal

abbrev pub invariant-loop-column : goal.invariant-loop-column
invariant-loop-column l = l.shared.items ≡ take l.column-index l.columns
