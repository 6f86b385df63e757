use Rattle.std.proofs.lemmas.Str.{is_utf8-from_IsUtf8}
use Rattle.std.proofs.Common.{ap, ◌∙◌}
use Rattle.shadow_records.specs.declared.kinds.TheConstants.{TEXT_VIEW_BYTES}
use Rattle.metadata_chunks.specs.inner.Fronts.{front_of}
use Rattle.metadata_chunks.proofs.CellLaws.{cell_made}
use Rattle.metadata_chunks.proofs.text_cell.TextCell.of.Goals as goal

pub invariant_of-result : goal.invariant_of-result
invariant_of-result c = cell_made c.args.text.now c.front_of.result c.in_ok-whole.whole (c.front_of.ensures ∙ ap (front_of TEXT_VIEW_BYTES) c.as_bytes.ensures.value) (c.in_ok-whole.ensures {u = tt}) (is_utf8-from_IsUtf8 c.args.text.now c.utf8.text)
