-- A text literal encloses a text.
use Rattle.std.proofs.Common.{◌≡◌, true, false, sym, ◌∙◌, subst, List, ℕ}
use Rattle.std.specs.Str.{IsUtf8}
use Rattle.vec_literal.proofs.Enclosed.{text_parts, quoted_undoubled}
use Rattle.vec_literal.proofs.literal.read_text.Goals as goal

pub unreachable-requires : goal.unreachable-requires
unreachable-requires c =
    let parts = text_parts c.args.literal.now c.requires in
    let no : false ≡ true = c.in-Err.ensures.succeeds (subst (λ (bytes : List ℕ). IsUtf8 bytes) (sym (c.in_ok-bytes.ensures ∙ c.between_quotes.ensures.text)) parts.utf8) in
    absurd cc
