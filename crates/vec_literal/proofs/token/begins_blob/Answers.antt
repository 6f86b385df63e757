use Rattle.std.proofs.Common.{◌∙◌, sym, arith, inl, inr, eq-eqb}
use Rattle.std.proofs.lemmas.Bool.{both_ways, false_from_ne_true}
use Rattle.vec_literal.proofs.Sorts.{blob_bytes}
use Rattle.vec_literal.proofs.token.begins_blob.Goals as goal
use Rattle.vec_literal.proofs.token.begins_blob.Goals.{then-from-text+then-text-from-eq120, then-from-text+else-text-from-eq120, else-from-text}

-- the first byte is neither of the two, or no byte follows it
pub returns-else-text-from-eq88 : goal.returns-else-text-from-eq88
returns-else-text-from-eq88 c = c.if-text-from-eq88.false ∙ sym (false_from_ne_true _ (λ h.
    (let blob = blob_bytes c.args.text.now c.args.from c.requires h in
    elim c.if-from-text.branch [
      | then-from-text+then-text-from-eq120 w ↦ both_ways _ c.if-text-from-eq88.false (w.value-is ∙ eq-eqb _ _ w.if-text-from-eq120.true)
      | then-from-text+else-text-from-eq120 w ↦ elim blob.1 [ inl e ↦ w.if-text-from-eq120.false e | inr e ↦ both_ways _ c.if-text-from-eq88.false (w.value-is ∙ eq-eqb _ _ e) ]
      | else-from-text w ↦ omega (arith, blob.0)
    ])))
