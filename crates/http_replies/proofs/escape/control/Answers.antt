use Rattle.std.proofs.Common.{ℕ, [], map, get_or, ◌∙◌, ap}
use Rattle.http_replies.specs.declared.escape.TheConstants.{CONTROLS}
use Rattle.http_replies.proofs.EscapeLaws.{control_at}
use Rattle.http_replies.proofs.escape.control.Goals as goal

pub returns : goal.returns
returns c = c.text_at.ensures ∙ ap (λ (at : ℕ). get_or (map (λ text. text.now) CONTROLS) at []) c.from.ensures ∙ control_at c.args.byte c.requires
