use Rattle.std.specs.Prelude.{FitsSigned}
use Rattle.std.specs.Int.{w64, to_le_bytes, cast_signed, cast_unsigned}
use Rattle.std.proofs.lemmas.Int.{to_z-of_z}
use Rattle.std.proofs.Common.{ℤ, rules, ◌≡◌, ◌++◌, ◌∷◌, List, ℕ, [], ap, ◌∙◌}
use Rattle.journal_format.specs.Format.{key_bytes}
use Rattle.journal_format.proofs.PieceLaws.{four}
use Rattle.journal_format.proofs.encode.put_key.Goals as goal

signed : (z : ℤ) → FitsSigned w64 z → to_le_bytes w64 (cast_unsigned w64 (cast_signed w64 (cast_unsigned w64 z))) ≡ to_le_bytes w64 (cast_unsigned w64 z)
signed z fits = ap (λ (y : ℤ). to_le_bytes w64 (cast_unsigned w64 y)) (to_z-of_z w64 z fits)

pub returns-clause-ok : goal.returns-clause-ok
unfolding key_bytes
returns-clause-ok c =
    four c.args.out.now.items _ (c.args.key.now.kind ∷ []) _ _ _ _ _ c.extend_from_slice-3.new.self.items
    (c.in_ok-extend_from_slice.ensures.items ∙ ap (λ (l : List ℕ). c.args.out.now.items ++ l) c.to_le_bytes.ensures)
    c.in_ok-push.ensures.items
    (c.in_ok-extend_from_slice-2.ensures.items ∙ ap (λ (l : List ℕ). c.push.new.self.items ++ l) (c.to_le_bytes-2.ensures ∙ signed c.args.key.now.a (search rules)))
    (c.in_ok-extend_from_slice-3.ensures.items ∙ ap (λ (l : List ℕ). c.extend_from_slice-2.new.self.items ++ l) (c.to_le_bytes-3.ensures ∙ signed c.args.key.now.b (search rules)))
