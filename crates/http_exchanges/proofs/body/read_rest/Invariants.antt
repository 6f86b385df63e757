use Rattle.std.proofs.Common.{◌≡◌, ◌≤◌, ◌-◌, true, length}
use Rattle.vec_base.specs.Streams.{Loses}
use Rattle.http_link.specs.Links.{left_on, coming_on, sent_on, risen_on, RisenSince}
use Rattle.http_exchanges.specs.inner.Behind.{joined}
use Rattle.http_exchanges.proofs.body.read_rest.Given as goal

abbrev pub invariant-loop-body : goal.invariant-loop-body
invariant-loop-body g l = record {
  here : g.L.Link.here l.link ≡ true;
  room : length l.room ≡ length l.fn.room;
  begun : length l.body ≤ l.size;
  read : Loses (joined l.fn.body (left_on (g.L.Link.told l.fn.link))) l.body (left_on (g.L.Link.told l.link));
  coming : coming_on (g.L.Link.told l.link) ≡ coming_on (g.L.Link.told l.fn.link);
  sent : sent_on (g.L.Link.told l.link) ≡ sent_on (g.L.Link.told l.fn.link);
  risen : RisenSince (risen_on (g.L.Link.told l.fn.link)) (g.L.Link.faults l.fn.link) (risen_on (g.L.Link.told l.link)) (g.L.Link.faults l.link);
  later : g.L.Link.faults l.fn.link ≤ g.L.Link.faults l.link;
}

abbrev pub decreases-loop-body : goal.decreases-loop-body
decreases-loop-body g l = l.size - length l.body
