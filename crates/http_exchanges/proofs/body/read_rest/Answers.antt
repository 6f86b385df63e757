use Rattle.std.proofs.Common.{inr, arith, rules}
use Rattle.http_link.proofs.RiseLaws.{risen_since}
use Rattle.http_exchanges.proofs.BehindLaws.{joined_more}
use Rattle.http_exchanges.proofs.body.read_rest.Goals as goal

pub loop-body-preserved : goal.loop-body-preserved
loop-body-preserved g c =
    let more = c.in_ok-read_more.ensures in
    record {
      here = more.here;
      room = omega (arith, c.read_more.auto.room, c.loop-body.invariant.room);
      begun = omega (arith, more.grown.1, c.loop-body-test.true);
      read = joined_more _ _ _ _ _ c.loop-body.invariant.read more.read;
      coming = search rules;
      sent = search rules;
      risen = inr (risen_since _ _ _ _ _ _ c.loop-body.invariant.risen c.loop-body.invariant.later more.later more.risen);
      later = omega (arith, more.later, c.loop-body.invariant.later);
    }

pub returns-in_err-read_more-clause-risen : goal.returns-in_err-read_more-clause-risen
returns-in_err-read_more-clause-risen g c =
    inr (risen_since _ _ _ _ _ _ c.loop-body.invariant.risen c.loop-body.invariant.later c.in_err-read_more.ensures.later c.in_err-read_more.ensures.risen)
