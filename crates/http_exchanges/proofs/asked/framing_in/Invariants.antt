use Rattle.std.proofs.Common.{◌≡◌, drop, map}
use Rattle.httparse.specs.Spans.{header_bytes}
use Rattle.http_requests.specs.Framings.{framing_from, framing_of}
use Rattle.http_exchanges.proofs.asked.framing_in.Given as goal

abbrev pub invariant-loop-header : goal.invariant-loop-header
invariant-loop-header l =
    framing_from l.known (map (header_bytes l.bytes) (drop l.header-index l.headers)) ≡ framing_of (map (header_bytes l.fn.bytes) l.fn.headers)
