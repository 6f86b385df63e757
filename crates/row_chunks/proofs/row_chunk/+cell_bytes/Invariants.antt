use Rattle.std.proofs.Common.{length}
use Rattle.row_chunks.proofs.row_chunk.+cell_bytes.Given as goal

abbrev pub decreases-cell_bytes : goal.decreases-cell_bytes
decreases-cell_bytes l = length l.columns.now
