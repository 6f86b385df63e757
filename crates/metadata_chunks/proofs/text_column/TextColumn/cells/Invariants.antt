use Rattle.std.proofs.Common.{◌≡◌, [], get_or}
use Rattle.shadow_records.specs.Cells.{laid, text_view}
use Rattle.metadata_chunks.proofs.text_column.TextColumn.cells.Given as goal

abbrev pub invariant-loop-slot : goal.invariant-loop-slot
invariant-loop-slot l = l.bytes ≡ laid (λ slot. text_view (get_or l.self-inside.cells slot [])) l.slot
