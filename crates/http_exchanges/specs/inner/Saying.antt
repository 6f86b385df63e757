-- What is answered to what a request says.
use Rattle.std.specs.Prelude.{◌≡◌, ℕ, List, Option, None, Some, Result, Ok, Err, ⊤}
use Rattle.http_requests.specs.declared.route.Route.{Route}
use Rattle.http_requests.specs.declared.request.WireRequest.{WireRequest}
use Rattle.http_requests.specs.declared.request.RequestFault.{RequestFault}
use Rattle.http_requests.specs.declared.request.RequestFault.TheVariants.{Status, Memory}
use Rattle.http_exchanges.specs.declared.exchange.Exchange.{Exchange}
use Rattle.http_exchanges.specs.declared.exchange.Exchange.TheVariants as exchange
use Rattle.http_exchanges.specs.Exchanges.{body_asks}

-- the exchange of a request, or of the fault in its place
abbrev pub exchange_for : Result WireRequest RequestFault → Exchange
exchange_for (Ok wanted) = exchange.Asked wanted
exchange_for (Err (Status status)) = exchange.Bad status
exchange_for (Err Memory) = exchange.Memory

-- exactly what is said, unless a read failed or memory was wanted
abbrev pub IsSaid : Result WireRequest ℕ → Exchange → Type 0
IsSaid said (exchange.Asked wanted) = said ≡ Ok wanted
IsSaid said (exchange.Bad status) = said ≡ Err status
IsSaid said exchange.Empty = ⊥
IsSaid said exchange.Lost = ⊤
IsSaid said exchange.Memory = ⊤

-- where the bytes behind the head are told, this is what the route and its body ask for
abbrev pub IfSaid : Option (List ℕ) → Route × ℕ → Exchange → Type 0
IfSaid None asked answer = ⊤
IfSaid (Some behind) asked answer = IsSaid (body_asks behind asked) answer
