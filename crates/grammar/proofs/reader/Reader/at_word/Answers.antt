use Rattle.std.proofs.Common.{◌≡◌, ℕ, List, IsTrue, ◌↔◌, sym, ◌∙◌, subst}
use Rattle.grammar.specs.inner.ReaderResults.{rest_of}
use Rattle.grammar.specs.Grammar.{lowered}
use Rattle.grammar.proofs.Places.{word_at, word_not_at}
use Rattle.grammar.proofs.reader.Reader.at_word.Goals as goal

pub returns-then-at_sort : goal.returns-then-at_sort
returns-then-at_sort c =
    word_at (rest_of c.args.self.now) c.args.word.now c.eq_ignore_ascii_case.result
    (subst (λ (z : List ℕ). IsTrue c.eq_ignore_ascii_case.result ↔ (lowered z ≡ lowered c.args.word.now)) c.bytes.ensures.value c.eq_ignore_ascii_case.ensures.test)
    (sym c.at_sort.ensures ∙ c.if-at_sort.true)

pub returns-else-at_sort : goal.returns-else-at_sort
returns-else-at_sort c = c.if-at_sort.false ∙ word_not_at (rest_of c.args.self.now) c.args.word.now (sym c.at_sort.ensures ∙ c.if-at_sort.false)
