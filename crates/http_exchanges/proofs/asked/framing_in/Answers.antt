use Rattle.std.proofs.Common.{sym, ◌∙◌}
use Rattle.http_exchanges.proofs.FieldLaws.{field_last, field_next}
use Rattle.http_exchanges.proofs.asked.framing_in.Goals as goal

pub loop-header-preserved : goal.loop-header-preserved
loop-header-preserved c =
    rw (c.after_field-known.ensures.exact, c.of.ensures, c.of-in-loop-header.ensures)
    (sym (field_next c.loop-header.known c.args.bytes.now c.args.headers.now c.loop-header.header-index _ c.loop-header-test.true) ∙ c.loop-header.invariant)

pub returns : goal.returns
returns c =
    sym (field_last c.loop-header.known c.args.bytes.now c.args.headers.now c.loop-header.header-index c.loop-header-test.false)
    ∙ c.loop-header.invariant
