use Rattle.std.proofs.Common.{sym, rules, SFits, w64}
use Rattle.std.proofs.lemmas.Int.{to_z-of_z}
use Rattle.row_store.specs.inner.Parts.{taken_by, IsChangedAt}
use Rattle.std.specs.Option.{option_copied}
use Rattle.chunk_slots.specs.Slots.{vectors_of}
use Rattle.row_chunks.specs.Cells.{cells_of}
use Rattle.row_store.proofs.PutLaws.{put-kept, put-told, put-origin}
use Rattle.row_store.proofs.store.RowStore.put.Goals as goal

changed : (c : goal.After-self-2-1) → IsChangedAt c.in_ok-place.place.chunk c.in_ok-place.place.slot (taken_by c.in_ok-place.place.rowid c.args.columns.now c.args.values.now) c.prepare.new.rows.parts c.place_row.new.parts
changed c =
    let fits : SFits w64 c.in_ok-place.place.rowid = search rules in
    let same = to_z-of_z w64 c.in_ok-place.place.rowid fits in
    rw same at c.in_ok-place_row.ensures.changed

pub invariant_of-self-2 : goal.invariant_of-self-2
invariant_of-self-2 c =
    put-kept c.self.inside.shape c.self.inside.count c.self.inside.touched c.prepare.new.touched c.self.inside.rows c.prepare.new.rows c.place_row.new.parts
    c.args.rowid.now (option_copied c.args.id) c.args.partition.now (vectors_of c.args.values.now) (cells_of c.args.columns.now c.args.values.now) c.in_ok-place.place
    c.self.invariant c.prepare.ensures.tied c.prepare.ensures.rows c.prepare.ensures.size c.prepare.ensures.wider c.in_ok-place.ensures.ready c.known.ensures.rising (changed c) c.in_ok-place_row.ensures.shapes

pub returns-clause-put : goal.returns-clause-put
returns-clause-put c =
    rw (sym c.self.view_is) (put-told c.self.inside.shape c.self.inside.count c.self.inside.touched c.prepare.new.touched c.self.inside.rows c.prepare.new.rows c.place_row.new.parts
    c.args.rowid.now (option_copied c.args.id) c.args.partition.now (vectors_of c.args.values.now) (cells_of c.args.columns.now c.args.values.now) c.in_ok-place.place
    c.self.invariant c.prepare.ensures.tied c.prepare.ensures.rows c.prepare.ensures.size c.prepare.ensures.wider c.in_ok-place.ensures.ready c.known.ensures.rising (changed c) c.in_ok-place_row.ensures.shapes)

pub returns-clause-origin : goal.returns-clause-origin
returns-clause-origin c =
    rw (sym c.self.view_is) (put-origin c.self.inside.shape c.self.inside.count c.self.inside.touched c.prepare.new.touched c.self.inside.rows c.prepare.new.rows c.place_row.new.parts
    c.args.rowid.now (option_copied c.args.id) c.args.partition.now (vectors_of c.args.values.now) (cells_of c.args.columns.now c.args.values.now) c.in_ok-place.place
    c.self.invariant c.prepare.ensures.tied c.prepare.ensures.rows c.prepare.ensures.size c.prepare.ensures.wider c.in_ok-place.ensures.ready c.known.ensures.rising (changed c) c.in_ok-place_row.ensures.shapes)
