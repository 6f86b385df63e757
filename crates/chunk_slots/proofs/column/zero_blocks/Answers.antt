use Rattle.std.proofs.Common.{◌≡◌, ◌++◌, [], ◌∷◌, sym, ap, ap₂, ◌∙◌, replicate, rules}
use Rattle.std.specs.List.{insert}
use Rattle.std.proofs.lemmas.List.Edits.{insert_end}
use Rattle.std.proofs.lemmas.Grind.{replicate_next}
use Rattle.chunk_slots.proofs.column.zero_blocks.Goals as goal

pub loop-preserved : goal.loop-preserved
loop-preserved c =
    let block = c.in_ok-zeros.field-0 in
    let is : block ≡ replicate c.args.len 0 = search rules in
    c.in_ok-insert.ensures {u = tt}
    ∙ ap (λ n. insert c.loop.blocks n block) c.len.ensures
    ∙ insert_end c.loop.blocks block
    ∙ ap₂ (λ blocks one. blocks ++ one ∷ []) c.loop.invariant is
    ∙ sym (replicate_next c.loop.counter (replicate c.args.len 0))
