use Rattle.std.proofs.Common.{rules, ◌≡◌, ◌∙◌, [], ap, cond, None, pos, Some, ℕ}
use Rattle.std.specs.Option.{option_map}
use Rattle.shadow_records.specs.Keys.{key_of}
use Rattle.shadow_records.specs.declared.kinds.TheConstants.{CHUNK_RECORDS}
use Rattle.record_bodies.specs.Bodies.{id_in, place_in}
use Rattle.record_bodies.specs.ReadRows.{RowSource, body_among, has_slot_records, placed_row}
use Rattle.record_bodies.specs.inner.InTurn.{values_in_turn}
use Rattle.record_bodies.proofs.TurnLaws.{row_in_turn}
use Rattle.record_bodies.proofs.reading.row.Goals as goal

pub returns-in-Some-2 : goal.returns-in-Some-2
returns-in-Some-2 c =
    let read = body_among c.args.records.now in
    let place : ℕ × ℕ = (c.in-Some.chunk, c.in-Some.slot) in
    let there : place_in c.args.place.now ≡ Some place = search rules in
    let bytes : cond (has_slot_records read c.args.number c.in-Some.chunk) (read (key_of c.args.number CHUNK_RECORDS (pos c.in-Some.chunk) (pos 0))) None ≡ Some c.in-Some-partition.partition.now = search rules in
    let source : RowSource = record { read = read; number = c.args.number; rowid = c.args.rowid; chunk = c.in-Some.chunk; slot = c.in-Some.slot; id = id_in c.args.place.now; partition = [] } in
    let values : Some c.in-Some-2.values ≡ values_in_turn source [] c.in-Some-partition.partition.now c.args.columns.now = search rules in
    ap (option_map (placed_row c.args.rowid place)) values ∙ row_in_turn read c.args.number c.args.columns.now c.args.rowid c.args.place.now place there c.in-Some-partition.partition.now bytes

pub returns-in-None : goal.returns-in-None
returns-in-None c =
    let read = body_among c.args.records.now in
    let place : ℕ × ℕ = (c.in-Some.chunk, c.in-Some.slot) in
    let there : place_in c.args.place.now ≡ Some place = search rules in
    let bytes : cond (has_slot_records read c.args.number c.in-Some.chunk) (read (key_of c.args.number CHUNK_RECORDS (pos c.in-Some.chunk) (pos 0))) None ≡ Some c.in-Some-partition.partition.now = search rules in
    let source : RowSource = record { read = read; number = c.args.number; rowid = c.args.rowid; chunk = c.in-Some.chunk; slot = c.in-Some.slot; id = id_in c.args.place.now; partition = [] } in
    let values : None ≡ values_in_turn source [] c.in-Some-partition.partition.now c.args.columns.now = search rules in
    ap (option_map (placed_row c.args.rowid place)) values ∙ row_in_turn read c.args.number c.args.columns.now c.args.rowid c.args.place.now place there c.in-Some-partition.partition.now bytes
