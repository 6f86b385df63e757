use Rattle.std.proofs.Common.{ap, ◌∙◌, arith}
use Rattle.std.proofs.lemmas.List.{get_or_default}
use Rattle.slot_alloc.specs.declared.chunk.Chunk.{Chunk}
use Rattle.slot_alloc.proofs.ChunkLaws.{none_at}
use Rattle.slot_alloc.proofs.chunks.find.Goals.{else-at-len-via-then-at-len+else-get-number, else-at-len-via-else-at-len}
use Rattle.slot_alloc.proofs.chunks.find.Goals as goal

pub returns-else-at-len : goal.returns-else-at-len
returns-else-at-len c =
    none_at c.args.number c.args.chunks.now c.first_from-at.result c.requires c.first_from-at.ensures (λ d lt is.
    elim c.else-at-len.branch [
      | else-at-len-via-then-at-len+else-get-number w ↦ w.if-get-number.false (ap (λ (x : Chunk). x.number) (w.get.ensures ∙ get_or_default c.args.chunks.now c.first_from-at.result w.get.result.now d lt) ∙ is)
      | else-at-len-via-else-at-len w ↦ absurd (omega (arith, w.if-at-len.false, c.len.ensures, lt))
    ])
