use Rattle.std.proofs.Common.{w64, of_z, not, nat_eq}
use Rattle.metadata_chunks.specs.Columns.{number_of}
use Rattle.row_chunks.proofs.PutLaws.{put_shown, truth_shown}
use Rattle.row_chunks.proofs.CellLaws.{cell_bool}
use Rattle.row_chunks.proofs.metadata.put_bool.Goals as goal

pub returns : goal.returns
returns c =
    let number = c.in-Int.number in
    put_shown number_of c.put.result c.args.column.now c.put.new.self c.args.slot (not (nat_eq (of_z w64 number) 0)) c.args.value.now c.put.ensures (truth_shown number c.args.value.now c.in-Int.is (cell_bool c.args.value.now c.requires.value))
