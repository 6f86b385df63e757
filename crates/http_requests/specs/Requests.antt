-- What a head and a body ask for, and the status where they ask for nothing.
use Rattle.std.specs.Prelude.{◌≡◌, ◌≤◌, ℕ, List, Option, Some, None, Result, Ok, Err, option_map, nat_lt, if◌then◌else◌, ⊤}
use Rattle.vec_base.specs.declared.limits.TheConstants.{MOST_REPLY_ROWS}
use Rattle.http_bodies.specs.Bodies.{statement_of, count_of}
use Rattle.http_bodies.specs.declared.body.StatementBody.{StatementBody}
use Rattle.http_bodies.specs.declared.body.BodyFault.{BodyFault}
use Rattle.http_bodies.specs.declared.body.BodyFault.TheVariants.{Form, Memory as WantOfMemory}
use Rattle.http_requests.specs.declared.request.TheConstants.{MOST_BODY_BYTES}
use Rattle.http_requests.specs.declared.framing.Framing.{Framing}
use Rattle.http_requests.specs.declared.framing.Framing.TheVariants as framing
use Rattle.http_requests.specs.declared.path.Path.{Path}
use Rattle.http_requests.specs.declared.route.Route.{Route}
use Rattle.http_requests.specs.declared.route.Route.TheVariants as route
use Rattle.http_requests.specs.declared.request.RequestFault.{RequestFault}
use Rattle.http_requests.specs.declared.request.RequestFault.TheVariants.{Status, Memory}
use Rattle.http_requests.specs.declared.request.WireRequest.{WireRequest}
use Rattle.http_requests.specs.declared.request.WireRequest.TheVariants as request
use Rattle.http_requests.specs.Paths.{path_of}
use Rattle.http_requests.specs.Routes.{has_body, route_of}

-- ---- the head

-- a body whose length is told has that length, unless it is too long
abbrev pub with_length : Route → ℕ → Result (Route × ℕ) ℕ
with_length r n = if nat_lt MOST_BODY_BYTES n then Err 413 else Ok (r, n)

-- a route without a body has none where its length is not told; one with a body wants a length
abbrev pub with_framing : Framing → Route → Result (Route × ℕ) ℕ
with_framing framing.Unknown r = if has_body r then Err 411 else Ok (r, 0)
with_framing (framing.Length n) r = with_length r n
with_framing framing.Bad r = Err 400

abbrev pub with_route : Framing → Option Route → Result (Route × ℕ) ℕ
with_route known None = Err 405
with_route known (Some r) = with_framing known r

abbrev pub with_path : Framing → List ℕ → Option Path → Result (Route × ℕ) ℕ
with_path known method None = Err 404
with_path known method (Some p) = with_route known (route_of p method)

-- What the fields, the target and the method of a head ask for, with the length of the body, or the first status that holds.
abbrev pub head_answer : Framing → List ℕ → List ℕ → Result (Route × ℕ) ℕ
head_answer framing.Bad target method = Err 400
head_answer framing.Unknown target method = with_path framing.Unknown method (path_of target)
head_answer (framing.Length n) target method = with_path (framing.Length n) method (path_of target)

-- ---- the body

abbrev pub statement_request : ℕ → StatementBody → WireRequest
statement_request s body = request.Statement s body.sql body.params

abbrev pub cursor_request : ℕ → StatementBody → WireRequest
cursor_request s body = request.OpenCursor s body.sql body.params

-- what a route with these bytes for its body asks for; a route without a body ignores them
abbrev pub request_said : Route → List ℕ → Option WireRequest
request_said route.OpenSession bytes = Some request.OpenSession
request_said (route.CloseSession s) bytes = Some (request.CloseSession s)
request_said (route.Statement s) bytes = option_map (statement_request s) (statement_of bytes)
request_said (route.OpenCursor s) bytes = option_map (cursor_request s) (statement_of bytes)
request_said (route.Fetch s c) bytes = option_map (request.Fetch s c) (count_of bytes)
request_said (route.CloseCursor s c) bytes = Some (request.CloseCursor s c)
request_said route.Shutdown bytes = Some request.Shutdown

-- ---- answers

-- exactly what is answered, or want of memory, which is tied to nothing
abbrev pub Answers : {A : Type 0} → Result A RequestFault → Result A ℕ → Type 0
Answers (Ok x) said = said ≡ Ok x
Answers (Err (Status n)) said = said ≡ Err n
Answers (Err Memory) said = ⊤

abbrev pub said_or_bad : Option WireRequest → Result WireRequest ℕ
said_or_bad None = Err 400
said_or_bad (Some asked) = Ok asked

-- what a route and the bytes of its body ask for, or the status 400
abbrev pub request_answer : Route → List ℕ → Result WireRequest ℕ
request_answer r bytes = said_or_bad (request_said r bytes)

-- what a fault of a body is for a request
abbrev pub fault_for : BodyFault → RequestFault
fault_for Form = Status 400
fault_for WantOfMemory = Memory

-- the next rows of a cursor are at least one, and at most the most rows of a reply
abbrev pub HasCount : WireRequest → Type 0
HasCount request.OpenSession = ⊤
HasCount (request.CloseSession s) = ⊤
HasCount (request.Statement s sql params) = ⊤
HasCount (request.OpenCursor s sql params) = ⊤
HasCount (request.Fetch s c count) = (1 ≤ count) × (count ≤ MOST_REPLY_ROWS)
HasCount (request.CloseCursor s c) = ⊤
HasCount request.Shutdown = ⊤
