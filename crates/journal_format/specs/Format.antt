-- How batches stand in a journal of format 1. Numbers stand with their lowest byte first.
use Rattle.std.specs.Prelude.{ℕ, ◌+◌, ◌<◌, ◌^◌, List, [], ◌∷◌, ◌++◌, length, codes, FitsSigned}
use Rattle.std.specs.List.{flat_map, AllByRecursion}
use Rattle.std.specs.Int.{w32, w64, to_le_bytes, cast_unsigned}
use Rattle.vec_base.specs.declared.shadow.ShadowKey.{ShadowKey}
use Rattle.vec_base.specs.declared.shadow.Change.{Change}
use Rattle.vec_base.specs.declared.shadow.Change.TheVariants.{Put, Fill, Remove, Patch}

-- the first 16 bytes
unfoldable pub header : List ℕ
header = codes "VEC0JRNL" ++ to_le_bytes w32 1 ++ to_le_bytes w32 0

-- the table in four bytes, the kind in one, and the two numbers in eight each
unfoldable pub key_bytes : ShadowKey → List ℕ
key_bytes key = to_le_bytes w32 key.table ++ (key.kind ∷ (to_le_bytes w64 (cast_unsigned w64 key.a) ++ to_le_bytes w64 (cast_unsigned w64 key.b)))

-- the length in four bytes, and the bytes
unfoldable pub counted : List ℕ → List ℕ
counted bytes = to_le_bytes w32 (length bytes) ++ bytes

-- a tag, the key, and what the tag asks for
abbrev pub change_bytes : Change → List ℕ
change_bytes (Put key body) = 1 ∷ (key_bytes key ++ counted body)
change_bytes (Fill key count) = 2 ∷ (key_bytes key ++ to_le_bytes w32 count)
change_bytes (Remove key) = 3 ∷ key_bytes key
change_bytes (Patch key at bytes) = 4 ∷ (key_bytes key ++ (to_le_bytes w32 at ++ counted bytes))

-- the body of a batch: its number and its changes
unfoldable pub body_bytes : ℕ → List Change → List ℕ
body_bytes number changes = to_le_bytes w64 number ++ flat_map change_bytes changes

-- what stands between two gates: the length of the body, and the body
unfoldable pub block : ℕ → List Change → List ℕ
block number changes = to_le_bytes w64 (length (body_bytes number changes)) ++ body_bytes number changes

-- batches behind open gates, the first of them with this number
abbrev pub blocks : ℕ → List (List Change) → List ℕ
blocks number [] = []
blocks number (batch ∷ batches) = 1 ∷ (block number batch ++ blocks (number + 1) batches)

-- ---- what has bytes of its own: numbers that their fields hold

pub record IsKey (key : ShadowKey) : Type 0 where
  pub table : key.table < 2 ^ 32
  pub kind : key.kind < 2 ^ 8
  pub a : FitsSigned w64 key.a
  pub b : FitsSigned w64 key.b

abbrev pub IsWhole : Change → Type 0
IsWhole (Put key body) = IsKey key × (length body < 2 ^ 32)
IsWhole (Fill key count) = IsKey key × (count < 2 ^ 32)
IsWhole (Remove key) = IsKey key
IsWhole (Patch key at bytes) = IsKey key × (at < 2 ^ 32) × (length bytes < 2 ^ 32)

abbrev pub AreWhole : List Change → Type 0
AreWhole changes = AllByRecursion IsWhole changes
