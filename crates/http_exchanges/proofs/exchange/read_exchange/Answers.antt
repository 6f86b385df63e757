use Rattle.std.proofs.Common.{arith, subst, sym, take}
use Rattle.std.proofs.lemmas.List.{length-take-le}
use Rattle.http_link.proofs.RiseLaws.{risen_then}
use Rattle.http_link.specs.Links.{left_on}
use Rattle.http_exchanges.specs.inner.Behind.{joined}
use Rattle.http_exchanges.specs.inner.Saying.{IfSaid}
use Rattle.http_exchanges.proofs.BehindLaws.{behind_head}
use Rattle.http_exchanges.proofs.SayingLaws.{told_by, told_refused}
use Rattle.http_exchanges.proofs.exchange.read_exchange.Goals as goal

pub returns-in-Ok-clause-exact : goal.returns-in-Ok-clause-exact
returns-in-Ok-clause-exact g c =
    let within = c.in-Whole.ensures.held.0 in
    let head = c.in-Whole.ensures.held.1 in
    let short = length-take-le c.in-Whole.filled c.read_head.new.buffer (omega (arith, c.in-Whole.ensures.filled)) in
    let behind = behind_head c.in-Whole.spans.len c.in-Whole.filled c.read_head.new.buffer (omega (arith, within.section.len_fits, short)) in
    let left = left_on (g.L.Link.told c.read_head.new.link) in
    told_by _ _ (take c.in-Whole.filled c.read_head.new.buffer) c.read_head.new.headers c.in-Whole.spans head.0 (c.in-Ok.route, c.in-Ok.size) c.read_request.result
    head.1 within (omega arith)
    (omega (arith, c.in-Whole.ensures.filled, short))
    c.in-Whole.ensures.took (c.in-Ok.ensures.exact head.0 head.1)
    (subst (λ l. IfSaid (joined l left) (c.in-Ok.route, c.in-Ok.size) c.read_request.result) (sym behind) c.read_request.ensures.exact)

pub returns-in-Ok-clause-risen : goal.returns-in-Ok-clause-risen
returns-in-Ok-clause-risen g c =
    risen_then _ _ _ _ _ _ c.in-Whole.ensures.risen c.in-Whole.ensures.later c.read_request.ensures.later c.read_request.ensures.risen

pub returns-in-Err-clause-exact : goal.returns-in-Err-clause-exact
returns-in-Err-clause-exact g c =
    let within = c.in-Whole.ensures.held.0 in
    let head = c.in-Whole.ensures.held.1 in
    rw c.exchange_for.ensures
    (told_refused _ _ (take c.in-Whole.filled c.read_head.new.buffer) c.read_head.new.headers c.in-Whole.spans head.0 c.in-Err.fault
    head.1 within (omega arith)
    (omega (arith, c.in-Whole.ensures.filled, length-take-le c.in-Whole.filled c.read_head.new.buffer (omega (arith, c.in-Whole.ensures.filled))))
    c.in-Whole.ensures.took (c.in-Err.ensures.exact head.0 head.1))
