use Rattle.std.proofs.Common.{length, Some, ap, sym, ◌∙◌, subst, set, refl, rules}
use Rattle.std.proofs.lemmas.List.{with_items_is}
use Rattle.std.proofs.lemmas.Int.{to_z-of_z}
use Rattle.std.specs.Int.{w64}
use Rattle.chunk_slots.specs.Slots.{vectors_of, with_slot, used_by}
use Rattle.chunk_slots.specs.inner.Columns.{HaveSlot, KeepsOthers, chunk_of}
use Rattle.chunk_slots.proofs.ChunkLaws.{row_within, row_free, have_slot, chunk_placed, chunk_kept, left_by_error}
use Rattle.chunk_slots.proofs.chunk.Chunk.place_row.Goals as goal

pub write_row-requires-clause-slot : goal.write_row-requires-clause-slot
write_row-requires-clause-slot c =
    let columns = c.self.inside.columns.items in
    let lt = row_within columns c.self.inside.rows c.args.self.now c.args.slot c.self.view_is c.requires.slot in
    subst (HaveSlot c.args.slot) (sym c.as_mut_slice.ensures.value) (have_slot (length c.self.inside.rows) c.args.slot columns c.self.invariant lt)

pub returns-in_err-write_row : goal.returns-in_err-write_row
returns-in_err-write_row c =
    let after = c.write_row.new.columns in
    let kept = subst (λ columns. KeepsOthers c.args.slot columns after) c.as_mut_slice.ensures.value c.write_row.ensures.kept in
    let items = with_items_is c.self.inside.columns after (search rules) in
    left_by_error c.from_residual.result _ (with_slot c.args.slot (used_by c.args.rowid (vectors_of c.args.values.now)) c.args.self.now) c.args.self.now c.from_residual.ensures.0
    (ap (λ columns. chunk_of columns c.self.inside.rows) items ∙ chunk_kept c.args.slot c.self.inside.columns.items after c.self.inside.rows c.self.inside.rows c.args.self.now kept c.self.view_is c.requires.free refl)

pub place-requires-clause-slot : goal.place-requires-clause-slot
place-requires-clause-slot c = row_within c.self.inside.columns.items c.self.inside.rows c.args.self.now c.args.slot c.self.view_is c.requires.slot

pub place-requires-clause-free : goal.place-requires-clause-free
place-requires-clause-free c = row_free c.self.inside.columns.items c.self.inside.rows c.args.self.now c.args.slot c.self.view_is c.requires.free

pub returns-in_err-place : goal.returns-in_err-place
returns-in_err-place c =
    let after = c.write_row.new.columns in
    let kept = subst (λ columns. KeepsOthers c.args.slot columns after) c.as_mut_slice.ensures.value c.write_row.ensures.kept in
    let items = with_items_is c.self.inside.columns after (search rules) in
    left_by_error c.from_residual-in_err-place.result _ (with_slot c.args.slot (used_by c.args.rowid (vectors_of c.args.values.now)) c.args.self.now) c.args.self.now c.from_residual-in_err-place.ensures.0
    (ap (λ columns. chunk_of columns c.place.new.self) items ∙ chunk_kept c.args.slot c.self.inside.columns.items after c.self.inside.rows c.place.new.self c.args.self.now kept c.self.view_is c.requires.free (c.in_err-place.ensures {u = tt}))

pub returns : goal.returns
returns c =
    let after = c.write_row.new.columns in
    let kept = subst (λ columns. KeepsOthers c.args.slot columns after) c.as_mut_slice.ensures.value c.write_row.ensures.kept in
    let row = c.in_ok-write_row.ensures.row in
    let number = to_z-of_z w64 c.args.rowid c.ranges.rowid in
    let made = c.in_ok-place.ensures {u = tt} ∙ ap (λ rowid. set c.self.inside.rows c.args.slot (Some rowid)) number in
    let items = with_items_is c.self.inside.columns after (search rules) in
    ap (λ columns. chunk_of columns c.place.new.self) items
    ∙ chunk_placed c.args.slot c.args.rowid (vectors_of c.args.values.now) c.self.inside.columns.items after c.self.inside.rows c.place.new.self c.args.self.now kept row c.self.view_is made
