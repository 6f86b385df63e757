use Rattle.std.proofs.Common.{◌≡◌, ◌∙◌, ap, sym, None, inl, inr, map, string_bytes}
use Rattle.vec_words.proofs.ConfigLaws.{missing, told}
use Rattle.vec_words.specs.Configs.{config_of}
use Rattle.vec_shell.specs.Outcome.{is_served_config}
use Rattle.vec_shell.proofs.top.workers_of.Goals as goal

pub returns-in-Ok-clause-asked : goal.returns-in-Ok-clause-asked
returns-in-Ok-clause-asked c = c.workers_in.ensures.asked ∙ sym (ap is_served_config (told (config_of (map string_bytes c.args.words.now)) c.in-Ok.config c.in-Ok.ensures.exact))

pub returns-in-Err-Words-clause-asked : goal.returns-in-Err-Words-clause-asked
returns-in-Err-Words-clause-asked c =
    elim (missing (config_of (map string_bytes c.args.words.now)) c.in-Err-Words.field-0 c.in-Err-Words.ensures.exact) [
      | inl none ↦ sym (ap is_served_config none.0)
      | inr starved ↦ cc (sym c.in-Err-Words.field-0-is ∙ starved)
    ]
