use Rattle.std.proofs.Common.{◌≡◌, subst, List, ℕ, IsTrue, ◌↔◌}
use Rattle.grammar.specs.Grammar.{lowered}
use Rattle.grammar.proofs.Places.{same_words}
use Rattle.grammar.proofs.words.is_in_any_case.Goals as goal

pub returns : goal.returns
returns c = same_words c.args.word.now c.args.known.now c.eq_ignore_ascii_case.result
    (subst (λ (z : List ℕ). IsTrue c.eq_ignore_ascii_case.result ↔ (lowered c.args.word.now ≡ lowered z)) c.as_bytes.ensures.value c.eq_ignore_ascii_case.ensures.test)
