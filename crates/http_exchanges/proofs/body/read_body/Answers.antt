use Rattle.std.proofs.Common.{slice_range, subst}
use Rattle.vec_base.specs.Streams.{Loses}
use Rattle.http_link.specs.Links.{left_on}
use Rattle.http_exchanges.specs.inner.Behind.{joined}
use Rattle.http_exchanges.proofs.BehindLaws.{body_whole}
use Rattle.http_exchanges.proofs.body.read_body.Goals as goal

pub returns-clause-exact : goal.returns-clause-exact
returns-clause-exact g c =
    let left = left_on (g.L.Link.told c.args.link.now) in
    let new = left_on (g.L.Link.told c.read_rest.new.link) in
    body_whole left new (slice_range c.args.buffer.now c.args.from c.args.filled) c.read_rest.new.body c.args.size
    (subst (λ begun. Loses (joined begun left) c.read_rest.new.body new) c.in_ok-body.ensures c.in_ok-read_rest.ensures.read)
    c.in_ok-read_rest.ensures.whole
