use Rattle.std.proofs.Common.{◌∙◌, ◌+◌, Some, ap, sym}
use Rattle.chunk_bitmap.specs.BitsOfBytes.{next_set_of}
use Rattle.slot_alloc.proofs.BitLaws.{all_clear, first_set, another_set}
use Rattle.slot_alloc.proofs.chunk.Slots.used_beside.Goals as goal

pub returns-in_err-first : goal.returns-in_err-first
returns-in_err-first c = rw c.from_residual.ensures (all_clear c.args.self.now c.args.slot (ap (next_set_of 0) (sym c.self.view_is) ∙ sym (c.in_err-first.ensures {u = tt})))

pub returns-then-first-slot : goal.returns-then-first-slot
returns-then-first-slot c =
    another_set c.args.self.now c.args.slot c.next_set-then-first-slot.result c.requires.within
    (ap (next_set_of 0) (sym c.self.view_is) ∙ sym (c.in_ok-first.ensures {u = tt}) ∙ ap (λ k. Some k) c.if-first-slot.true)
    (c.next_set-then-first-slot.ensures ∙ ap (next_set_of (c.args.slot + 1)) c.self.view_is)

pub returns-else-first-slot : goal.returns-else-first-slot
returns-else-first-slot c =
    let first = first_set c.args.self.now c.in_ok-first.first (ap (next_set_of 0) (sym c.self.view_is) ∙ sym (c.in_ok-first.ensures {u = tt})) in
    (c.if-first-slot.false, first.passes)
