use Rattle.std.proofs.lemmas.Slice.Eq.{bytes_eq-Decides}
use Rattle.std.proofs.Common.{◌≡◌, Bool, ℕ, List, IsTrue, ◌↔◌, sym, ◌∙◌, subst}
use Rattle.grammar.specs.inner.ReaderResults.{rest_of}
use Rattle.grammar.proofs.Places.{mark_at, mark_not_at}
use Rattle.grammar.proofs.reader.Reader.at_mark.Goals as goal

pub returns-then-at_sort : goal.returns-then-at_sort
returns-then-at_sort c =
    mark_at (rest_of c.args.self.now) c.args.mark.now c.eq.result
    (subst (λ (z : List ℕ). IsTrue c.eq.result ↔ (z ≡ c.args.mark.now)) c.bytes.ensures.value
    (subst (λ (b : Bool). IsTrue b ↔ (c.bytes.result.now ≡ c.args.mark.now)) (sym c.eq.ensures) (bytes_eq-Decides c.bytes.result.now c.args.mark.now)))
    (sym c.at_sort.ensures ∙ c.if-at_sort.true)

pub returns-else-at_sort : goal.returns-else-at_sort
returns-else-at_sort c = c.if-at_sort.false ∙ mark_not_at (rest_of c.args.self.now) c.args.mark.now (sym c.at_sort.ensures ∙ c.if-at_sort.false)
