use Rattle.std.proofs.Common.{ap, ◌∙◌, List, Option, ℕ}
use Rattle.vec_literal.specs.Tokens.{Token}
use Rattle.grammar.specs.inner.ReaderResults.{spelled_rest}
use Rattle.grammar.specs.Parameters.{numbered_from}
use Rattle.grammar.proofs.Numbering.{stepped}
use Rattle.grammar.proofs.reader.Reader.step.Goals as goal

pub returns : goal.returns
returns c =
    ap (λ (o : Option ℕ). numbered_from o (spelled_rest c.advance.new.self)) c.advance.ensures.greatest ∙
    (ap (λ (ts : List Token). numbered_from c.args.self.now.greatest ts) c.advance.ensures.rest ∙ stepped c.args.self.now.greatest (spelled_rest c.args.self.now) c.requires)
