use Rattle.std.proofs.Common.{ap, codes, ◌∙◌, List, ℕ}
use Rattle.std.proofs.lemmas.Result.{IfOk-weaker}
use Rattle.clap.specs.Simple.{App, with_rule}
use Rattle.vec_words.specs.inner.CommandLine.{option_rule}
use Rattle.vec_words.proofs.command.whole_command.Goals as goal

abbrev more : List ℕ → App → App
more name a = with_rule a (option_rule name)

pub returns : goal.returns
returns c =
    let with_mode = c.in_ok-command.ensures in
    let with_exchanges = c.in_ok-command-2.ensures ∙ ap (more (codes "exchanges")) with_mode in
    let with_listen = c.in_ok-command-3.ensures ∙ ap (more (codes "listen")) with_exchanges in
    let with_table = c.in_ok-command-4.ensures ∙ ap (more (codes "table")) with_listen in
    let with_seed = c.in_ok-command-5.ensures ∙ ap (more (codes "seed")) with_table in
    let with_rows = c.in_ok-command-6.ensures ∙ ap (more (codes "rows")) with_seed in
    let with_workers = c.in_ok-command-7.ensures ∙ ap (more (codes "workers")) with_rows in
    let with_journal = c.in_ok-command-8.ensures ∙ ap (more (codes "journal")) with_workers in
    IfOk-weaker c.with_option-8.result _ _ (λ r h. h ∙ ap (more (codes "sqlite")) with_journal) c.with_option-8.ensures
