use Rattle.std.proofs.Common.{rules, ◌≡◌, ◌-◌, Some}
use Rattle.chunk_slots.specs.Slots.{vector_of}
use Rattle.shadow_records.specs.PlacedTables.{value_in}
use Rattle.table_query.proofs.ItemLaws.{bits_read, int8_read}
use Rattle.table_query.proofs.items.vector_item.Goals as goal

pub returns-in-Int8Vector-clause-value : goal.returns-in-Int8Vector-clause-value
returns-in-Int8Vector-clause-value c =
    let read : vector_of (value_in (c.args.number - 1) c.args.view.now.placed) ≡ Some c.in_ok-bytes.bytes = search rules in
    int8_read c.args.view.now c.args.number c.args.kind c.in-Int8Vector.field-0 c.in-Int8Vector.field-1 c.in_ok-bytes.bytes c.in-Int8Vector.is c.requires.there c.requires.valid read

pub returns-in_default : goal.returns-in_default
returns-in_default c =
    let read : vector_of (value_in (c.args.number - 1) c.args.view.now.placed) ≡ Some c.in_ok-bytes.bytes = search rules in
    record {
      value = bits_read c.args.view.now c.args.number c.args.kind c.in_ok-bytes.bytes c.requires.vectors c.in_default.not-Int8Vector c.requires.there c.requires.valid read;
      reads = c.vector.ensures.reads;
      pieces = c.vector.ensures.pieces;
    }
