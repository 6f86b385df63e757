-- the count of the bytes that pass
use Rattle.std.proofs.Common.{rules, ◌∙◌}
use Rattle.std.proofs.lemmas.Iterator.{YieldsList-from_slice}
use Rattle.std.proofs.lemmas.Iterator.Consumers.{count_from_yields_List}
use Rattle.std.proofs.lemmas.Iterator.Search.{YieldsList-from_take_while}
use Rattle.std.proofs.lemmas.List.Folds.{length-prefix_len}
use Rattle.vec_literal.specs.Tokens.{is_white}
use Rattle.vec_literal.proofs.token.leading_white.Goals as goal
use borrow.Author.Tests.{tests}

pub returns-clause-white : goal.returns-clause-white
returns-clause-white c =
    count_from_yields_List c.take_while.result _ c.count.ensures.ran
    (YieldsList-from_take_while _ is_white (YieldsList-from_slice c.args.text.now (cc)) c.take_while.ensures.closure c.take_while.ensures.done (λ x b q k. search (rules, tests))) ∙
    length-prefix_len is_white c.args.text.now
