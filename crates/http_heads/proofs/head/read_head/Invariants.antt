use Rattle.std.proofs.Common.{◌≡◌, ◌≤◌, ◌⊎◌, ◌-◌, true, length, take}
use Rattle.httparse.specs.Grammar.{HasNoRequest}
use Rattle.vec_base.specs.Streams.{Loses}
use Rattle.http_link.specs.Links.{left_on, coming_on, sent_on, risen_on, risen_by, has_risen}
use Rattle.http_heads.specs.declared.head.TheConstants.{HEAD_ROOM, MOST_FIELDS}
use Rattle.http_heads.proofs.head.read_head.Given as goal

abbrev pub invariant-loop-filled : goal.invariant-loop-filled
invariant-loop-filled g l = record {
  here : g.L.Link.here l.link ≡ true;
  within : l.filled ≤ length l.buffer;
  buffer_room : length l.buffer ≡ HEAD_ROOM;
  field_room : length l.headers ≡ MOST_FIELDS;
  took : Loses (left_on (g.L.Link.told l.fn.link)) (take l.filled l.buffer) (left_on (g.L.Link.told l.link));
  none : (l.filled ≡ 0) ⊎ HasNoRequest (take l.filled l.buffer);
  coming : coming_on (g.L.Link.told l.link) ≡ coming_on (g.L.Link.told l.fn.link);
  sent : sent_on (g.L.Link.told l.link) ≡ sent_on (g.L.Link.told l.fn.link);
  risen : ((l.filled ≡ 0) × (risen_on (g.L.Link.told l.link) ≡ risen_on (g.L.Link.told l.fn.link)) × (g.L.Link.faults l.link ≡ g.L.Link.faults l.fn.link))
      ⊎ (risen_on (g.L.Link.told l.link) ≡ risen_by (has_risen (g.L.Link.faults l.fn.link) (g.L.Link.faults l.link)) (risen_on (g.L.Link.told l.fn.link)));
  later : g.L.Link.faults l.fn.link ≤ g.L.Link.faults l.link;
}

abbrev pub decreases-loop-filled : goal.decreases-loop-filled
decreases-loop-filled g l = length l.buffer - l.filled
