-- The fields of a head one after another.
use Rattle.std.proofs.Common.{◌≡◌, ◌+◌, ◌<◌, ◌≤◌, ℕ, List, length, drop, map, get_or, ap, add-one, drop-cons}
use Rattle.std.proofs.Math.ListN.{drop_of_length-le}
use Rattle.httparse.specs.Spans.{header_bytes}
use Rattle.httparse.specs.declared.spans.HeaderSpan.{HeaderSpan}
use Rattle.http_requests.specs.Framings.{after_field, framing_from}
use Rattle.http_requests.specs.declared.framing.Framing.{Framing}

-- one field more
pub field_next : (known : Framing) (bytes : List ℕ) (headers : List HeaderSpan) (i : ℕ) (d : HeaderSpan) → i < length headers
    → framing_from known (map (header_bytes bytes) (drop i headers))
    ≡ framing_from (after_field known (header_bytes bytes (get_or headers i d)).0 (header_bytes bytes (get_or headers i d)).1) (map (header_bytes bytes) (drop (i + 1) headers))
unfolding framing_from
field_next known bytes headers i d within =
    rw add-one (ap (λ l. framing_from known (map (header_bytes bytes) l)) (drop-cons headers i d within))

-- no field is left
pub field_last : (known : Framing) (bytes : List ℕ) (headers : List HeaderSpan) (i : ℕ) → length headers ≤ i
    → framing_from known (map (header_bytes bytes) (drop i headers)) ≡ known
unfolding framing_from
field_last known bytes headers i past = ap (λ l. framing_from known (map (header_bytes bytes) l)) (drop_of_length-le headers past)
