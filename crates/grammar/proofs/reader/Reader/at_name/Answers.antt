use Rattle.std.proofs.Common.{◌<◌, ◌≤◌, ℕ, List, length, sym, ◌∙◌, subst, ap}
use Rattle.std.proofs.lemmas.Bool.{lt-leb}
use Rattle.grammar.specs.inner.ReaderResults.{rest_of}
use Rattle.grammar.specs.Grammar.{lowered}
use Rattle.vec_base.specs.Words.{is_reserved}
use Rattle.grammar.proofs.Places.{name_at, name_not_word, name_too_long}
use Rattle.grammar.proofs.reader.Reader.at_name.Goals as goal

pub returns-then-not-at_sort : goal.returns-then-not-at_sort
returns-then-not-at_sort c = sym (name_not_word (rest_of c.args.self.now) (sym c.at_sort.ensures ∙ c.if-not-at_sort.true))

pub returns-then-bytes-le-MOST_NAME_BYTES : goal.returns-then-bytes-le-MOST_NAME_BYTES
returns-then-bytes-le-MOST_NAME_BYTES c =
    name_at (rest_of c.args.self.now) c.is_reserved.result (sym c.at_sort.ensures ∙ c.if-not-at_sort.false)
    (subst (λ (z : List ℕ). length z ≤ 64) c.bytes-bytes.ensures.value c.if-bytes-le-MOST_NAME_BYTES.true)
    (c.is_reserved.ensures ∙ ap (λ (z : List ℕ). is_reserved (lowered z)) c.bytes-bytes.ensures.value)

pub returns-else-bytes-le-MOST_NAME_BYTES : goal.returns-else-bytes-le-MOST_NAME_BYTES
returns-else-bytes-le-MOST_NAME_BYTES c =
    lt-leb _ 64 c.if-bytes-le-MOST_NAME_BYTES.false ∙ sym (name_too_long (rest_of c.args.self.now) (subst (λ (z : List ℕ). 64 < length z) c.bytes-bytes.ensures.value c.if-bytes-le-MOST_NAME_BYTES.false))
