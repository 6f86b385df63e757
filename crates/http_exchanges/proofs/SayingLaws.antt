-- What is answered, and what the bytes of the connection say.
use Rattle.std.proofs.Common.{◌≡◌, ◌≤◌, ◌<◌, ℕ, List, [], ◌++◌, length, take, drop, None, Some, Ok, Err, Result, refl, sym, ap, ◌∙◌, subst, inl, inr, arith, nat_le}
use Rattle.std.specs.declared.option.Option.{Option}
use Rattle.std.proofs.lemmas.Bool.{le-leb, lt-leb}
use Rattle.httparse.specs.Grammar.{RequestHead}
use Rattle.httparse.specs.Spans.{IsRequestAt, IsRequestWithin}
use Rattle.httparse.specs.declared.spans.HeaderSpan.{HeaderSpan}
use Rattle.httparse.specs.declared.spans.RequestSpans.{RequestSpans}
use Rattle.vec_base.specs.Streams.{Loses}
use Rattle.http_heads.specs.Heads.{IsHead}
use Rattle.http_heads.specs.declared.head.TheConstants.{HEAD_ROOM, MOST_FIELDS}
use Rattle.http_heads.proofs.HeadLaws.{head_at}
use Rattle.http_requests.specs.Requests.{Answers, request_answer}
use Rattle.http_requests.specs.declared.route.Route.{Route}
use Rattle.http_requests.specs.declared.request.WireRequest.{WireRequest}
use Rattle.http_requests.specs.declared.request.RequestFault.{RequestFault}
use Rattle.http_requests.specs.declared.request.RequestFault.TheVariants.{Status, Memory}
use Rattle.http_exchanges.specs.declared.exchange.Exchange.{Exchange}
use Rattle.http_exchanges.specs.declared.exchange.Exchange.TheVariants as exchange
use Rattle.http_exchanges.specs.declared.body.Unread.TheVariants as unread
use Rattle.http_exchanges.specs.Exchanges.{IfTold, body_asks, head_asks}
use Rattle.http_exchanges.specs.inner.Behind.{joined, IfBodyTold}
use Rattle.http_exchanges.specs.inner.Saying.{exchange_for, IsSaid, IfSaid}

-- an exact answer is an exact exchange
pub said_for : (answer : Result WireRequest RequestFault) (said : Result WireRequest ℕ) → Answers answer said → IsSaid said (exchange_for answer)
said_for (Ok wanted) said is = is
said_for (Err (Status status)) said is = is
said_for (Err Memory) said is = tt

-- a whole body is asked about
pub said_whole : (behind : Option (List ℕ)) (body : List ℕ) (route : Route) (size : ℕ) (answer : Result WireRequest RequestFault)
    → IfBodyTold behind size (Ok body) → Answers answer (request_answer route body) → IfSaid behind (route, size) (exchange_for answer)
said_whole None body route size answer told is = tt
said_whole (Some behind) body route size answer (fits, same) is =
    said_for answer _ (subst (Answers answer) (sym (rw (le-leb size (length behind) fits, same) refl)) is)

-- a body that is too short is a bad request
pub said_short : (behind : Option (List ℕ)) (route : Route) (size : ℕ) → IfBodyTold behind size (Err unread.Short)
    → IfSaid behind (route, size) (exchange.Bad 400)
said_short None route size told = tt
said_short (Some behind) route size few = rw (lt-leb size (length behind) few) refl

-- what a head asks for with the bytes behind it is what the connection asks for
pub told_by : (all left : Option (List ℕ)) (front : List ℕ) (headers : List HeaderSpan) (spans : RequestSpans) (h : RequestHead) (asked : Route × ℕ) (answer : Exchange)
    → IsRequestAt front headers spans h → IsRequestWithin front headers spans → length headers ≡ MOST_FIELDS → length front ≤ HEAD_ROOM
    → Loses all front left → head_asks h ≡ Ok asked → IfSaid (joined (drop spans.len front) left) asked answer → IfTold all answer
told_by None left front headers spans h asked answer at within room short loses asks said = tt
told_by (Some all) None front headers spans h asked answer at within room short loses asks said = absurd loses
told_by (Some all) (Some left) front headers spans h asked (exchange.Asked wanted) at within room short loses asks said =
    (h, drop spans.len front ++ left, subst (λ bytes. IsHead bytes h (drop spans.len front ++ left)) (sym loses) (head_at front left headers spans h at within room short), rw asks said)
told_by (Some all) (Some left) front headers spans h asked (exchange.Bad status) at within room short loses asks said =
    inl (h, drop spans.len front ++ left, subst (λ bytes. IsHead bytes h (drop spans.len front ++ left)) (sym loses) (head_at front left headers spans h at within room short), rw asks said)
told_by (Some all) (Some left) front headers spans h asked exchange.Empty at within room short loses asks said = absurd said
told_by (Some all) (Some left) front headers spans h asked exchange.Lost at within room short loses asks said = tt
told_by (Some all) (Some left) front headers spans h asked exchange.Memory at within room short loses asks said = tt

-- a head that is refused is refused whatever is behind it
pub told_refused : (all left : Option (List ℕ)) (front : List ℕ) (headers : List HeaderSpan) (spans : RequestSpans) (h : RequestHead) (fault : RequestFault)
    → IsRequestAt front headers spans h → IsRequestWithin front headers spans → length headers ≡ MOST_FIELDS → length front ≤ HEAD_ROOM
    → Loses all front left → Answers (Err fault) (head_asks h) → IfTold all (exchange_for (Err fault))
told_refused None left front headers spans h fault at within room short loses asks = tt
told_refused (Some all) None front headers spans h fault at within room short loses asks = absurd loses
told_refused (Some all) (Some left) front headers spans h (Status status) at within room short loses asks =
    inl (h, drop spans.len front ++ left, subst (λ bytes. IsHead bytes h (drop spans.len front ++ left)) (sym loses) (head_at front left headers spans h at within room short), rw asks refl)
told_refused (Some all) (Some left) front headers spans h Memory at within room short loses asks = tt
