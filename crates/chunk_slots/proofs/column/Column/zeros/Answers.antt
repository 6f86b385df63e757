use Rattle.std.proofs.Common.{◌≡◌, ◌/◌, length, ap, ◌∙◌, arith}
use Rattle.std.proofs.lemmas.List.{length-replicate}
use Rattle.chunk_slots.proofs.BlockLaws.{length_column}
use Rattle.chunk_slots.proofs.column.Column.zeros.Goals as goal

pub returns-clause-size : goal.returns-clause-size
returns-clause-size c =
    let blocks = c.in_ok-zero_blocks.field-0 in
    let count : length blocks ≡ c.args.size / 8 = ap length (c.in_ok-zero_blocks.ensures {u = tt}) ∙ length-replicate (c.args.size / 8) _ in
    omega (arith, length_column c.args.width blocks, count, c.requires.eights)
