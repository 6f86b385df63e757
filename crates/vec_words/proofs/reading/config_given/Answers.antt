use Rattle.std.proofs.Common.{◌∙◌, ap, ap₂, sym, Some}
use Rattle.std.specs.Prelude.{option_and_then}
use Rattle.vec_words.specs.declared.config.TheConstants.{MOST_WORKERS}
use Rattle.vec_words.specs.Configs.{config_at, config_from, mode_at, number_or, store_of}
use Rattle.vec_words.specs.inner.Given.{lent, values_in}
use Rattle.vec_words.proofs.ConfigLaws.{lent_or, missing, stops, told, was_none, was_some, whole}
use Rattle.vec_words.proofs.reading.config_given.Goals as goal

pub returns-in_err-store-clause-exact : goal.returns-in_err-store-clause-exact
returns-in_err-store-clause-exact c =
    let v = values_in c.args.given.now in
    let word_is = ap lent (was_some c.args.given.now.mode c.in_ok-word.word c.in_ok-word.ensures.value) in
    let mode_is = ap (option_and_then (mode_at v)) word_is ∙ told (mode_at v c.in_ok-word.word.now) c.in_ok-mode.mode c.in_ok-mode.ensures in
    stops (store_of v.journal v.sqlite) (config_at v) _ _ c.from_residual-in_err-store.ensures.1 (missing (store_of v.journal v.sqlite) _ c.in_err-store.ensures)
    (λ none. ap₂ (λ m s. config_from v m s (number_or 1 1 MOST_WORKERS v.workers)) mode_is none)

pub returns-in_err-workers-clause-exact : goal.returns-in_err-workers-clause-exact
returns-in_err-workers-clause-exact c =
    let v = values_in c.args.given.now in
    let word_is = ap lent (was_some c.args.given.now.mode c.in_ok-word.word c.in_ok-word.ensures.value) in
    let mode_is = ap (option_and_then (mode_at v)) word_is ∙ told (mode_at v c.in_ok-word.word.now) c.in_ok-mode.mode c.in_ok-mode.ensures in
    let store_is = told (store_of v.journal v.sqlite) c.in_ok-store.store c.in_ok-store.ensures in
    stops c.number_given.result (config_at v) _ _ c.from_residual-in_err-workers.ensures.1 (was_none c.number_given.result _ c.in_err-workers.ensures.value)
    (λ none. ap₂ (λ m s. config_from v m s (number_or 1 1 MOST_WORKERS v.workers)) mode_is store_is ∙ ap (config_from v (Some c.in_ok-mode.mode) (Some c.in_ok-store.store)) (ap (λ n. number_or 1 1 n v.workers) (sym c.from.ensures) ∙ sym c.number_given.ensures.exact ∙ none))

pub returns-clause-exact : goal.returns-clause-exact
returns-clause-exact c =
    let v = values_in c.args.given.now in
    let word_is = ap lent (was_some c.args.given.now.mode c.in_ok-word.word c.in_ok-word.ensures.value) in
    let mode_is = ap (option_and_then (mode_at v)) word_is ∙ told (mode_at v c.in_ok-word.word.now) c.in_ok-mode.mode c.in_ok-mode.ensures in
    let store_is = told (store_of v.journal v.sqlite) c.in_ok-store.store c.in_ok-store.ensures in
    whole v c.in_ok-mode.mode c.in_ok-store.store c.in_ok-workers.workers c.in_ok-listen.listen mode_is store_is
    (ap (λ n. number_or 1 1 n v.workers) (sym c.from.ensures) ∙ sym c.number_given.ensures.exact ∙ was_some c.number_given.result c.in_ok-workers.workers c.in_ok-workers.ensures.value)
    (lent_or c.args.given.now.listen _ c.unwrap_or.result c.in_ok-listen.listen c.unwrap_or.ensures c.in_ok-listen.ensures)
