-- The head of a request at the front of the bytes of a connection.
use Rattle.std.specs.Prelude.{◌≡◌, ◌≢◌, ◌≤◌, ℕ, List, [], length, None, Some, ⊤}
use Rattle.std.specs.declared.option.Option.{Option}
use Rattle.httparse.specs.Grammar.{RequestHead, ReadsRequest, print_request}
use Rattle.httparse.specs.Spans.{IsRequestOf, IsRequestWithin}
use Rattle.httparse.specs.declared.spans.HeaderSpan.{HeaderSpan}
use Rattle.vec_base.specs.Streams.{Rose}
use Rattle.http_heads.specs.declared.head.Head.{Head}
use Rattle.http_heads.specs.declared.head.Head.TheVariants as head
use Rattle.http_heads.specs.declared.head.TheConstants.{HEAD_ROOM, MOST_FIELDS}

-- the bytes are a request head of version 1.0 or 1.1, which is no longer and has no more fields than it may, and then the rest
pub record IsHead (bytes : List ℕ) (h : RequestHead) (rest : List ℕ) : Type 0 where
  pub reads : ReadsRequest bytes h rest
  pub short : length (print_request h) ≤ HEAD_ROOM
  pub few : length h.fields ≤ MOST_FIELDS

-- no front of the bytes is such a head
abbrev pub HasNoHead : List ℕ → Type 0
HasNoHead bytes = (h : RequestHead) (rest : List ℕ) → IsHead bytes h rest → ⊥

-- what the bytes of a connection give, in whatever pieces they come
abbrev pub HeadOf : List ℕ → Head → Type 0
HeadOf bytes (head.Whole filled spans) = (h : RequestHead) × (rest : List ℕ) × IsHead bytes h rest
HeadOf bytes (head.Bad filled) = (bytes ≢ []) × HasNoHead bytes
HeadOf bytes head.Empty = bytes ≡ []
HeadOf bytes (head.Lost filled) = ⊤

-- where the bytes are told, this is what they give
abbrev pub IfTold : Option (List ℕ) → Head → Type 0
IfTold None answer = ⊤
IfTold (Some bytes) answer = HeadOf bytes answer

-- how many bytes were read
abbrev pub filled_of : Head → ℕ
filled_of (head.Whole filled spans) = filled
filled_of (head.Bad filled) = filled
filled_of head.Empty = 0
filled_of (head.Lost filled) = filled

-- the spans of a whole head lie in the bytes that were read, and are those of a head at their front
abbrev pub Holds : List ℕ → List HeaderSpan → Head → Type 0
Holds front headers (head.Whole filled spans) = IsRequestWithin front headers spans × IsRequestOf front headers spans
Holds front headers (head.Bad filled) = ⊤
Holds front headers head.Empty = ⊤
Holds front headers (head.Lost filled) = ⊤

-- a head is lost only where the count of faults rose
abbrev pub LostBy : ℕ → Head → ℕ → Type 0
LostBy before (head.Whole filled spans) now = ⊤
LostBy before (head.Bad filled) now = ⊤
LostBy before head.Empty now = ⊤
LostBy before (head.Lost filled) now = Rose before now
