-- What the bytes of one connection are: a request, what is no request, or nothing.
use Rattle.std.specs.Prelude.{◌≡◌, ◌≢◌, ◌⊎◌, ◌≤◌, ℕ, List, [], length, take, map, nat_le, if◌then◌else◌, Option, None, Some, Result, Ok, Err, ⊤}
use Rattle.httparse.specs.Grammar.{RequestHead}
use Rattle.httparse.specs.Spans.{name_and_value}
use Rattle.vec_base.specs.Streams.{Rose}
use Rattle.http_heads.specs.Heads.{IsHead, HasNoHead}
use Rattle.http_requests.specs.Framings.{framing_of}
use Rattle.http_requests.specs.Requests.{HasCount, head_answer, request_answer}
use Rattle.http_requests.specs.declared.route.Route.{Route}
use Rattle.http_requests.specs.declared.request.WireRequest.{WireRequest}
use Rattle.http_requests.specs.declared.request.WireRequest.TheVariants as request
use Rattle.http_replies.specs.Statuses.{IsBadStatus}
use Rattle.http_exchanges.specs.declared.exchange.Exchange.{Exchange}
use Rattle.http_exchanges.specs.declared.exchange.Exchange.TheVariants as exchange

-- ---- the head and the bytes behind it

-- what a head asks for by its fields, its target and its method, with the length of the body, or a status
abbrev pub head_asks : RequestHead → Result (Route × ℕ) ℕ
head_asks h = head_answer (framing_of (map name_and_value h.fields)) h.target h.method

-- what a route asks for whose body is the first so many of the bytes behind the head; where there are fewer, it is a bad request
abbrev pub body_asks : List ℕ → Route × ℕ → Result WireRequest ℕ
body_asks behind asked =
    if nat_le asked.1 (length behind) then request_answer asked.0 (take asked.1 behind) else Err 400

-- the first status that holds is the answer
abbrev pub asked_behind : List ℕ → Result (Route × ℕ) ℕ → Result WireRequest ℕ
asked_behind behind (Ok asked) = body_asks behind asked
asked_behind behind (Err status) = Err status

-- what a head with these bytes behind it asks for, or a status
abbrev pub asked_by : RequestHead → List ℕ → Result WireRequest ℕ
asked_by h behind = asked_behind behind (head_asks h)

-- ---- one connection

-- the bytes are a head and those behind it, and this is what they ask for
abbrev pub Asks : List ℕ → Result WireRequest ℕ → Type 0
Asks bytes said = (h : RequestHead) × (behind : List ℕ) × IsHead bytes h behind × (asked_by h behind ≡ said)

-- there are bytes, and no front of them is a head
abbrev pub IsNoRequest : List ℕ → Type 0
IsNoRequest bytes = (bytes ≢ []) × HasNoHead bytes

-- What the bytes of one connection are. Want of memory and a failed read are told by no bytes.
abbrev pub ExchangeOf : List ℕ → Exchange → Type 0
ExchangeOf bytes (exchange.Asked wanted) = Asks bytes (Ok wanted)
ExchangeOf bytes (exchange.Bad status) = Asks bytes (Err status) ⊎ (IsNoRequest bytes × (status ≡ 400))
ExchangeOf bytes exchange.Empty = bytes ≡ []
ExchangeOf bytes exchange.Lost = ⊥
ExchangeOf bytes exchange.Memory = ⊥

-- ---- what is read

-- exactly what the bytes are, unless a read failed or memory was wanted
abbrev pub ReadAs : List ℕ → Exchange → Type 0
ReadAs bytes (exchange.Asked wanted) = ExchangeOf bytes (exchange.Asked wanted)
ReadAs bytes (exchange.Bad status) = ExchangeOf bytes (exchange.Bad status)
ReadAs bytes exchange.Empty = ExchangeOf bytes exchange.Empty
ReadAs bytes exchange.Lost = ⊤
ReadAs bytes exchange.Memory = ⊤

-- where the bytes of the connection are told, they are read as what they are
abbrev pub IfTold : Option (List ℕ) → Exchange → Type 0
IfTold None answer = ⊤
IfTold (Some bytes) answer = ReadAs bytes answer

-- an exchange is lost only where the count of faults rose
abbrev pub LostBy : ℕ → Exchange → ℕ → Type 0
LostBy before (exchange.Asked wanted) now = ⊤
LostBy before (exchange.Bad status) now = ⊤
LostBy before exchange.Empty now = ⊤
LostBy before exchange.Lost now = Rose before now
LostBy before exchange.Memory now = ⊤

-- what is no request has one of its statuses
abbrev pub HasBadStatus : Exchange → Type 0
HasBadStatus (exchange.Asked wanted) = ⊤
HasBadStatus (exchange.Bad status) = IsBadStatus status
HasBadStatus exchange.Empty = ⊤
HasBadStatus exchange.Lost = ⊤
HasBadStatus exchange.Memory = ⊤

-- the next rows of a cursor are asked for in a count that may be
abbrev pub HasRowCount : Exchange → Type 0
HasRowCount (exchange.Asked wanted) = HasCount wanted
HasRowCount (exchange.Bad status) = ⊤
HasRowCount exchange.Empty = ⊤
HasRowCount exchange.Lost = ⊤
HasRowCount exchange.Memory = ⊤
