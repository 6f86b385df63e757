use Rattle.std.proofs.Common.{sym, rules, SFits, w64, refl}
use Rattle.std.proofs.lemmas.Int.{to_z-of_z}
use Rattle.row_store.specs.inner.Parts.{taken_by, IsChangedAt}
use Rattle.std.specs.Option.{option_copied}
use Rattle.chunk_slots.specs.Slots.{vectors_of}
use Rattle.row_chunks.specs.Cells.{cells_of}
use Rattle.row_store.proofs.PutLaws.{completed-kept, completed-rows}
use Rattle.row_store.proofs.store.RowStore.place_row.Goals as goal

changed : (c : goal.After-self-2-1) → IsChangedAt c.args.place.now.chunk c.args.place.now.slot (taken_by c.args.place.now.rowid c.args.columns.now c.args.values.now) c.prepare_at.new.rows.parts c.place_row.new.parts
changed c =
    let fits : SFits w64 c.args.place.now.rowid = search rules in
    let same = to_z-of_z w64 c.args.place.now.rowid fits in
    rw same at c.in_ok-place_row.ensures.changed

pub invariant_of-self-2 : goal.invariant_of-self-2
invariant_of-self-2 c =
    completed-kept c.self.inside.shape c.self.inside.count c.self.inside.touched.places.size c.self.inside.touched.places.size c.self.inside.rows c.prepare_at.new.rows c.place_row.new.parts
    (option_copied c.args.id) c.args.partition.now (vectors_of c.args.values.now) (cells_of c.args.columns.now c.args.values.now) c.args.place.now
    c.self.invariant c.prepare_at.ensures.tied c.prepare_at.ensures.rows c.prepare_at.ensures.size refl c.in_ok-prepare_at.ensures.entered c.known.ensures.rising (changed c) c.in_ok-place_row.ensures.shapes

pub returns-clause-rows : goal.returns-clause-rows
returns-clause-rows c =
    rw (sym c.self.view_is) (completed-rows c.self.inside.shape c.self.inside.count c.self.inside.touched.places.size c.self.inside.touched.places.size c.self.inside.rows c.prepare_at.new.rows c.place_row.new.parts
    (option_copied c.args.id) c.args.partition.now (vectors_of c.args.values.now) (cells_of c.args.columns.now c.args.values.now) c.args.place.now
    c.self.invariant c.prepare_at.ensures.tied c.prepare_at.ensures.rows c.prepare_at.ensures.size refl c.in_ok-prepare_at.ensures.entered c.known.ensures.rising (changed c) c.in_ok-place_row.ensures.shapes)
