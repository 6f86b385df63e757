use Rattle.std.proofs.Common.{◌∙◌, ap, sym, inl, subst}
use Rattle.std.specs.Prelude.{ok_or, map, string_bytes}
use Rattle.vec_base.specs.Answers.{Gives}
use Rattle.clap.specs.Matches.{found_of}
use Rattle.vec_words.specs.declared.fault.WordsFault.TheVariants.{Memory, Words}
use Rattle.vec_words.specs.Configs.{config_at}
use Rattle.vec_words.specs.inner.CommandLine.{has_short_word}
use Rattle.vec_words.proofs.ConfigLaws.{behind_first, no_words, refused, short_config, taken_config}
use Rattle.vec_words.proofs.reading.read_words.Goals as goal

pub returns-in_default-clause-exact : goal.returns-in_default-clause-exact
returns-in_default-clause-exact c = inl (ap (λ o. ok_or o Words) (sym (no_words string_bytes c.args.words.now c.in_default.len_below)))

pub returns-then-has_short_flag-clause-exact : goal.returns-then-has_short_flag-clause-exact
returns-then-has_short_flag-clause-exact c =
    inl (ap (λ o. ok_or o Words) (sym (short_config (map string_bytes c.args.words.now)
    (sym (c.if-has_short_flag.ensures ∙ ap has_short_word (behind_first string_bytes c.args.words.now))))))

pub returns-in_err-matches-clause-exact : goal.returns-in_err-matches-clause-exact
returns-in_err-matches-clause-exact c =
    let words = map string_bytes c.args.words.now in
    let long = sym (c.if-has_short_flag.ensures ∙ ap has_short_word (behind_first string_bytes c.args.words.now)) in
    refused words _ _ long c.from_residual.ensures.1 c.in_err-matches.ensures.err

pub returns-clause-exact : goal.returns-clause-exact
returns-clause-exact c =
    let words = map string_bytes c.args.words.now in
    let long = sym (c.if-has_short_flag.ensures ∙ ap has_short_word (behind_first string_bytes c.args.words.now)) in
    subst (λ o. Gives Memory c.config_given.result (ok_or o Words))
    (sym (taken_config words (found_of c.in_ok-matches.matches) long c.in_ok-matches.ensures.ok.0 c.in_ok-matches.ensures.ok.1 ∙ ap config_at (sym c.from_matches.ensures)))
    c.config_given.ensures.exact
