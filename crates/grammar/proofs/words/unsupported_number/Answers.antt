use Rattle.std.proofs.Common.{◌∙◌, refl}
use Rattle.vec_base.specs.Words.{unsupported_number}
use Rattle.grammar.proofs.words.unsupported_number.Goals as goal

pub returns : goal.returns
unfolding unsupported_number
returns c = c.number_in.ensures ∙ refl
