use Rattle.std.proofs.Common.{w64, to_z, of_z, ap, sym, ◌∙◌, rules}
use Rattle.std.proofs.lemmas.Int.{to_z-of_z}
use Rattle.vec_base.specs.declared.value.Value.TheVariants.{Int}
use Rattle.row_chunks.proofs.PutLaws.{put_shown}
use Rattle.row_chunks.proofs.metadata.put_number.Goals as goal

pub returns : goal.returns
returns c =
    let number = c.in-Int.number in
    put_shown (λ n. Int n) c.put.result c.args.column.now c.put.new.self c.args.slot (to_z w64 (of_z w64 number)) c.args.value.now c.put.ensures (ap (λ n. Int n) (to_z-of_z w64 number (search rules)) ∙ sym c.in-Int.is)
