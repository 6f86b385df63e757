use Rattle.std.proofs.Common.{List, ℕ, subst, ◌∙◌}
use Rattle.row_model.specs.Shelled.{Answers}
use Rattle.vec_shell.specs.ShellTexts.{Reads}
use Rattle.vec_shell.specs.Pieces.{trim}
use Rattle.vec_shell.proofs.Kept.{answers_kept}
use Rattle.vec_shell.specs.declared.engine_session.TheConstants.{FIRST}
use Rattle.vec_shell.proofs.shell.reply_to.Goals as goal

pub returns : goal.returns
returns g c = λ piece holds.
    answers_kept FIRST c.args.session.now.engine.state c.answer.new.self.engine.state (trim piece) c.answer.result
    (subst (λ (t : List ℕ). Answers Reads FIRST c.args.session.now.engine.state t c.answer.result c.answer.new.self.engine.state)
    (c.as_slice.ensures ∙ holds.kept.text c.if-cutter.false) c.answer.ensures)
