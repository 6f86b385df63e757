-- The bytes behind a head, as they are read into a body.
use Rattle.std.specs.Prelude.{◌≡◌, ◌<◌, ◌≤◌, ◌⊎◌, ℕ, List, ◌++◌, length, take, Bool, Option, None, Some, Result, Ok, Err, ⊤}
use Rattle.std.specs.Option.{option_map}
use Rattle.vec_base.specs.Streams.{Rose}
use Rattle.http_exchanges.specs.declared.body.Unread.{Unread}
use Rattle.http_exchanges.specs.declared.body.Unread.TheVariants as unread

-- these bytes and those that are left on the connection
abbrev pub joined : List ℕ → Option (List ℕ) → Option (List ℕ)
joined read left = option_map (λ bytes. read ++ bytes) left

-- a body is the first so many of the bytes behind the head; it has none where there are fewer
abbrev pub BodyOf : List ℕ → ℕ → Result (List ℕ) Unread → Type 0
BodyOf behind size (Ok body) = (size ≤ length behind) × (take size behind ≡ body)
BodyOf behind size (Err unread.Short) = length behind < size
BodyOf behind size (Err unread.Lost) = ⊤
BodyOf behind size (Err unread.Memory) = ⊤

abbrev pub IfBodyTold : Option (List ℕ) → ℕ → Result (List ℕ) Unread → Type 0
IfBodyTold None size answer = ⊤
IfBodyTold (Some behind) size answer = BodyOf behind size answer

-- the count rose where a read failed
abbrev pub FailedBy : {A : Type 0} → ℕ → Result A Unread → ℕ → Type 0
FailedBy before (Ok x) now = ⊤
FailedBy before (Err unread.Short) now = ⊤
FailedBy before (Err unread.Lost) now = Rose before now
FailedBy before (Err unread.Memory) now = ⊤

-- where they are told, there are fewer bytes
abbrev pub AreFewer : Option (List ℕ) → ℕ → Type 0
AreFewer None size = ⊤
AreFewer (Some bytes) size = length bytes < size
