use Rattle.std.proofs.Common.{◌≡◌, ◌/◌, ℕ, true, take}
use Rattle.vec_base.specs.Forms.{is_listed}
use Rattle.table_changes.specs.inner.Touching.{are_below}
use Rattle.table_changes.proofs.touched.bytes_of.Given as goal

abbrev pub invariant-loop-slot : goal.invariant-loop-slot
invariant-loop-slot l = record {
  below : are_below (l.size / 8) l.bytes ≡ true;
  listed : (s : ℕ) → is_listed (take l.slot-index l.slots) s ≡ true → is_listed l.bytes (s / 8) ≡ true;
}
