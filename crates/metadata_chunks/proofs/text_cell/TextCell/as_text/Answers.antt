use Rattle.std.proofs.Common.{ap, sym, ◌∙◌}
use Rattle.std.specs.Str.{is_utf8}
use Rattle.std.proofs.lemmas.Str.{IsUtf8-from_is_utf8}
use Rattle.metadata_chunks.specs.inner.Fronts.{text_in}
use Rattle.metadata_chunks.proofs.text_cell.TextCell.as_text.Goals as goal

pub unreachable-requires : goal.unreachable-requires
unreachable-requires c =
    let short = ap (text_in c.self.inside.len c.self.inside.front) c.in-None.is in
    (c.in-Err.ensures {u = tt}).cases.0 (IsUtf8-from_is_utf8 _ (ap is_utf8 (sym short) ∙ c.self.invariant.utf8))
