use Rattle.std.proofs.Common.{◌≡◌, ap, ◌∙◌, arith}
use Rattle.std.specs.List.{insert}
use Rattle.std.specs.Prelude.{Some}
use Rattle.chunk_slots.specs.Slots.{vectors_of}
use Rattle.row_chunks.specs.Cells.{cells_of}
use Rattle.row_chunks.specs.RowSlots.{UsedRow, all_free}
use Rattle.row_store.specs.inner.Parts.{with_content}
use Rattle.row_store.proofs.PartLaws.{added-at, added-shapes}
use Rattle.row_store.proofs.parts.add_part.Goals as goal

abbrev used : goal.In_ok-insert → UsedRow
used c = record { rowid = c.args.row.now.rowid; vectors = vectors_of c.args.row.now.values.now; cells = cells_of c.args.row.now.columns.now c.args.row.now.values.now }

now : (c : goal.In_ok-insert) → c.insert.new.self ≡ insert c.args.parts.now c.first_from-at.result
    (with_content c.args.row.now.slot (Some (used c)) (record { number = c.args.number; slots = all_free c.args.shape.now.size c.args.shape.now.widths c.args.shape.now.kinds }))
now c =
    let one = c.in_ok-insert.ensures {u = tt} in
    let two = c.in_ok-new.ensures {u = tt} in
    let three = c.in_ok-part.ensures {u = tt} in
    one ∙ ap (insert c.args.parts.now c.first_from-at.result) (two ∙ three)

pub returns-clause-changed : goal.returns-clause-changed
returns-clause-changed c =
    let number = c.from.ensures in
    rw (now c) (added-at c.args.parts.now c.first_from-at.result c.args.row.now.slot c.args.shape.now (used c) c.args.number c.first_from-at.ensures.within
    (λ k lt. let h = c.first_from-at.ensures.front k lt in omega (arith, h, number)) (λ k le lt. let h = c.first_from-at.ensures.back k le lt in omega (arith, h, number)) c.requires.new c.requires.parts.rise c.requires.slot)

pub returns-clause-shapes : goal.returns-clause-shapes
returns-clause-shapes c =
    let number = c.from.ensures in
    rw (now c) (added-shapes c.args.parts.now c.first_from-at.result c.args.row.now.slot c.args.shape.now (used c) c.args.number c.first_from-at.ensures.within
    (λ k lt. let h = c.first_from-at.ensures.front k lt in omega (arith, h, number)) (λ k le lt. let h = c.first_from-at.ensures.back k le lt in omega (arith, h, number)) c.requires.new c.requires.parts.rise c.requires.slot c.requires.fits.vectors c.ranges.number.fits c.requires.parts)
