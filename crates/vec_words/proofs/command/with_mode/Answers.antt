use Rattle.std.proofs.Common.{rules, ap, ap₂, codes, true, ◌≡◌, ◌∙◌}
use Rattle.std.proofs.lemmas.Result.{IfOk-weaker}
use Rattle.clap.specs.Walk.{rule_of}
use Rattle.clap.specs.Simple.{App, app_of, app_of_fields, new_app, new_rule, on_top, with_rule}
use Rattle.vec_words.proofs.command.with_mode.Goals as goal

abbrev without_help : App → App
without_help = on_top (λ s. record s { disable_help_flag = true })

pub returns : goal.returns
returns c =
    let mode_is : rule_of c.new-mode.result ≡ new_rule (codes "mode") = search rules in
    let top_is : app_of c.disable_help_flag.result ≡ without_help (new_app (codes "vec_server")) =
    ap app_of_fields c.disable_help_flag.ensures ∙ ap without_help c.new.ensures.app in
    IfOk-weaker c.arg.result _ _ (λ r h. h.shape (search rules) ∙ ap₂ with_rule top_is mode_is) c.arg.ensures
