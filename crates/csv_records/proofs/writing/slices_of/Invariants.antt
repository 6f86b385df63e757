use Rattle.std.proofs.Common.{Bor, List, ℕ, ◌≡◌, map}
use Rattle.std.specs.Prelude.{take}
use Rattle.csv_records.proofs.writing.slices_of.Given as goal

abbrev pub invariant-loop-field : goal.invariant-loop-field
invariant-loop-field l = map (λ (slice : Bor (List ℕ)). slice.now) l.slices.items ≡ take l.field-index l.fn.fields
