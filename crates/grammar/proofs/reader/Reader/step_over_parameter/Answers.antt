use Rattle.std.proofs.Common.{ap, ◌∙◌, List, Option, ℕ}
use Rattle.std.specs.Prelude.{max}
use Rattle.std.specs.Option.{option_map}
use Rattle.vec_literal.specs.Tokens.{Token}
use Rattle.grammar.specs.inner.ReaderResults.{spelled_rest}
use Rattle.grammar.specs.Parameters.{numbered_from}
use Rattle.grammar.proofs.Numbering.{parameter_stepped}
use Rattle.grammar.proofs.reader.Reader.step_over_parameter.Goals as goal

pub returns : goal.returns
returns c =
    ap (λ (o : Option ℕ). numbered_from o (spelled_rest c.advance.new.self)) (c.advance.ensures.greatest ∙ c.raised-self.ensures) ∙
    (ap (λ (ts : List Token). numbered_from (option_map (λ g. max g c.args.number) c.args.self.now.greatest) ts) c.advance.ensures.rest ∙ parameter_stepped c.args.self.now.greatest c.args.number (spelled_rest c.args.self.now) c.requires)
