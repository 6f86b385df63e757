-- What a link tells, and what its calls do to that.
use Rattle.std.specs.Prelude.{◌≡◌, ℕ, ◌+◌, ◌≤◌, ◌⊎◌, ◌||◌, min, nat_le, Bool, true, false, List, [], ◌∷◌, ◌++◌, length, take, ⊤, None, Some}
use Rattle.std.specs.Option.{option_map}
use Rattle.std.specs.declared.option.Option.{Option}
use Rattle.vec_base.specs.declared.limits.TheConstants.{LAST_COUNT}
use Rattle.vec_base.specs.declared.source.ReadOutcome.{ReadOutcome}
use Rattle.vec_base.specs.declared.source.ReadOutcome.TheVariants as got
use Rattle.vec_base.specs.declared.sink.WriteOutcome.{WriteOutcome}
use Rattle.vec_base.specs.declared.sink.WriteOutcome.TheVariants as wrote
use Rattle.http_link.specs.declared.link.Next.{Next}
use Rattle.http_link.specs.declared.link.Next.TheVariants as next

-- ---- what is told

-- what a link tells, all of it or nothing
pub record Told : Type 0 where
  -- the bytes left on the connection that is there
  pub left : List ℕ
  -- the connections to come, each with its bytes
  pub coming : List (List ℕ)
  -- the bytes sent on each connection that came
  pub sent : List (List ℕ)
  -- for each connection that came, whether the count of faults rose in a read or a write on it
  pub risen : List Bool

abbrev pub left_on : Option Told → Option (List ℕ)
left_on told = option_map (λ t. t.left) told

abbrev pub coming_on : Option Told → Option (List (List ℕ))
coming_on told = option_map (λ t. t.coming) told

abbrev pub sent_on : Option Told → Option (List (List ℕ))
sent_on told = option_map (λ t. t.sent) told

abbrev pub risen_on : Option Told → Option (List Bool)
risen_on told = option_map (λ t. t.risen) told

-- a count of faults has risen, or stands at the last number of 64 bits
abbrev pub has_risen : ℕ → ℕ → Bool
has_risen before now = nat_le (min (before + 1) LAST_COUNT) now

-- a list of which the last item is another
unfoldable pub on_last : {A : Type 0} → (A → A) → List A → List A
on_last change [] = []
on_last change (x ∷ []) = change x ∷ []
on_last change (x ∷ y ∷ xs) = x ∷ on_last change (y ∷ xs)

-- ---- the next connection

abbrev pub is_conn : Next → Bool
is_conn next.Conn = true
is_conn next.End = false
is_conn next.Failed = false

-- the first connection to come is there with all its bytes, and the others are to come; at the end none is to come; a failure
-- leaves those that are to come
abbrev pub NextComes : Option Told → Next → Option Told → Type 0
NextComes None answer None = ⊤
NextComes None answer (Some new) = ⊥
NextComes (Some old) answer None = ⊥
NextComes (Some old) next.Conn (Some new) = old.coming ≡ new.left ∷ new.coming
NextComes (Some old) next.End (Some new) = (old.coming ≡ []) × (new.coming ≡ [])
NextComes (Some old) next.Failed (Some new) = new.coming ≡ old.coming

-- a connection that comes is added with nothing sent
abbrev pub sent_next : Next → Option (List (List ℕ)) → Option (List (List ℕ))
sent_next next.Conn sent = option_map (λ xs. xs ++ [] ∷ []) sent
sent_next next.End sent = sent
sent_next next.Failed sent = sent

-- a connection that comes is added without a rise
abbrev pub risen_next : Next → Option (List Bool) → Option (List Bool)
risen_next next.Conn risen = option_map (λ xs. xs ++ false ∷ []) risen
risen_next next.End risen = risen
risen_next next.Failed risen = risen

-- ---- reads and writes

-- a read gives at least one byte and at most as many as there is room for
abbrev pub FitsRoom : ℕ → ReadOutcome → Type 0
FitsRoom room (got.Took n) = (1 ≤ n) × (n ≤ room)
FitsRoom room got.End = ⊤
FitsRoom room got.Failed = ⊤

-- the last connection that came has a rise too
abbrev pub risen_by : Bool → Option (List Bool) → Option (List Bool)
risen_by rose risen = option_map (on_last (λ before. before || rose)) risen

-- no call was made on the connection that is there, or it has a rise where the count rose
abbrev pub RisenSince : Option (List Bool) → ℕ → Option (List Bool) → ℕ → Type 0
RisenSince old before new now = ((new ≡ old) × (now ≡ before)) ⊎ (new ≡ risen_by (has_risen before now) old)

-- the bytes come behind those that were sent on the last connection
abbrev pub sent_more : List ℕ → Option (List (List ℕ)) → Option (List (List ℕ))
sent_more bytes sent = option_map (on_last (λ before. before ++ bytes)) sent

-- a write sends some of the first bytes
abbrev pub SendsTo : Option (List (List ℕ)) → List ℕ → WriteOutcome → Option (List (List ℕ)) → Type 0
SendsTo old bytes (wrote.Took n) new = (n ≤ length bytes) × (new ≡ sent_more (take n bytes) old)
SendsTo old bytes wrote.Failed new = new ≡ old
