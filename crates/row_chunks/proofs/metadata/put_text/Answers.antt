use Rattle.std.proofs.Common.{ap, sym, ◌∙◌}
use Rattle.vec_base.specs.declared.value.Value.TheVariants.{Text}
use Rattle.row_chunks.proofs.PutLaws.{put_shown}
use Rattle.row_chunks.proofs.metadata.put_text.Goals as goal

pub returns : goal.returns
returns c = put_shown (λ text. Text text) c.put.result c.args.column.now c.put.new.self c.args.slot c.as_text.result.now c.args.value.now c.put.ensures (ap (λ text. Text text) c.as_text.ensures ∙ sym c.in-Text.is)
