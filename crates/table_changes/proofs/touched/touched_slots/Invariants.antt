use Rattle.std.proofs.Common.{◌≡◌, ◌<◌, ℕ, true}
use Rattle.vec_base.specs.Forms.{is_listed}
use Rattle.row_store.specs.Touches.{is_touched_place}
use Rattle.table_changes.specs.inner.Touching.{are_below}
use Rattle.table_changes.proofs.touched.touched_slots.Given as goal

abbrev pub invariant-loop-slot : goal.invariant-loop-slot
invariant-loop-slot l = record {
  below : are_below l.table.table.schema.chunk_size l.slots ≡ true;
  listed : (s : ℕ) → s < l.slot → is_touched_place l.table.touches l.chunk s ≡ true → is_listed l.slots s ≡ true;
}
