-- What stands at the front of bytes: a value, and the bytes behind it; or nothing, where there is no such value.
use Rattle.std.specs.Prelude.{◌≡◌, ℕ, zero, suc, ◌==◌, nat_lt, if◌then◌else◌, List, [], ◌∷◌, length, take, drop, Option, Some, None}
use Rattle.std.specs.Int.{Width, w32, w64, byte_len, from_le_bytes, cast_signed}
use Rattle.vec_base.specs.declared.shadow.ShadowKey.{ShadowKey}
use Rattle.vec_base.specs.declared.shadow.Change.{Change}
use Rattle.vec_base.specs.declared.shadow.Change.TheVariants.{Put, Fill, Remove, Patch}

-- a step, and then the next one with what the first one gave
infixl 10 ◌>>=◌
abbrev pub ◌>>=◌ : {A B : Type 0} → Option A → (A → Option B) → Option B
None >>= f = None
(Some x) >>= f = f x

-- a number of a width
abbrev pub number_at : Width → List ℕ → Option (ℕ × List ℕ)
number_at w bytes = if nat_lt (length bytes) (byte_len w) then None else Some (from_le_bytes w (take (byte_len w) bytes), drop (byte_len w) bytes)

abbrev pub byte_at : List ℕ → Option (ℕ × List ℕ)
byte_at [] = None
byte_at (b ∷ rest) = Some (b, rest)

-- so many bytes
abbrev pub bytes_at : ℕ → List ℕ → Option (List ℕ × List ℕ)
bytes_at count bytes = if nat_lt (length bytes) count then None else Some (take count bytes, drop count bytes)

unfoldable pub key_at : List ℕ → Option (ShadowKey × List ℕ)
key_at bytes = do
  table ← number_at w32 bytes
  kind ← byte_at table.1
  a ← number_at w64 kind.1
  b ← number_at w64 a.1
  Some (record { table = table.0; kind = kind.0; a = cast_signed w64 a.0; b = cast_signed w64 b.0 }, b.1)

-- a length in four bytes, and that many bytes
unfoldable pub counted_at : List ℕ → Option (List ℕ × List ℕ)
counted_at bytes = do
  count ← number_at w32 bytes
  bytes_at count.0 count.1

-- what the tag asks for behind the key
unfoldable pub change_with : ℕ → ShadowKey → List ℕ → Option (Change × List ℕ)
change_with tag key bytes =
    if tag == 1 then (counted_at bytes >>= λ body. Some (Put key body.0, body.1))
    else (if tag == 2 then (number_at w32 bytes >>= λ count. Some (Fill key count.0, count.1))
    else (if tag == 3 then Some (Remove key, bytes)
    else (if tag == 4 then (number_at w32 bytes >>= λ at. counted_at at.1 >>= λ part. Some (Patch key at.0 part.0, part.1))
    else None)))

-- a tag, a key and what the tag asks for
unfoldable pub change_at : List ℕ → Option (Change × List ℕ)
change_at bytes = do
  tag ← byte_at bytes
  key ← key_at tag.1
  change_with tag.0 key.0 key.1

-- whole changes, and nothing behind them; the first number only bounds the recursion
unfoldable pub changes_in : ℕ → List ℕ → Option (List Change)
changes_in bound [] = Some []
changes_in zero (b ∷ bytes) = None
changes_in (suc bound) (b ∷ bytes) = do
  first ← change_at (b ∷ bytes)
  others ← changes_in bound first.1
  Some (first.0 ∷ others)

-- the changes that the bytes are, whole and nothing behind them
abbrev pub changes_of : List ℕ → Option (List Change)
changes_of bytes = changes_in (length bytes) bytes

-- What a function returned, seen by view, is what reading gives.
abbrev pub Reads : {X Y : Type 0} → (X → Y) → Option X → Option Y → Type 0
Reads view None read = read ≡ None
Reads view (Some x) read = read ≡ Some (view x)
