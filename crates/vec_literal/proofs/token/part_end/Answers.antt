use Rattle.std.proofs.Common.{◌∙◌, sym, arith}
use Rattle.vec_literal.proofs.Quoted.{part_stands, part_fails}
use Rattle.vec_literal.proofs.Texts.{ok_given, err_given}
use Rattle.vec_literal.proofs.token.part_end.Goals as goal
use Rattle.vec_literal.proofs.token.part_end.Goals.{else-quote-text-via-then-quote-text+else-is_ok, else-quote-text-via-else-quote-text}

pub returns-then-is_ok : goal.returns-then-is_ok
returns-then-is_ok c = part_stands c.args.text.now c.args.from c.quote_from-quote.result c.requires c.quote_from-quote.ensures.run c.if-quote-text.true
    (ok_given c.from_utf8.result _ _ c.from_utf8.ensures.cases (sym c.is_ok.ensures.value ∙ c.if-is_ok.true)).1.1

pub returns-else-quote-text : goal.returns-else-quote-text
returns-else-quote-text c = part_fails c.args.text.now c.args.from c.quote_from-quote.result c.requires c.quote_from-quote.ensures.run
    (λ inside utf8. elim c.else-quote-text.branch [
      | else-quote-text-via-then-quote-text+else-is_ok w ↦ (err_given w.from_utf8.result _ _ w.from_utf8.ensures.cases (sym w.is_ok.ensures.value ∙ w.if-is_ok.false)).1.0 utf8
      | else-quote-text-via-else-quote-text w ↦ omega arith
    ])
