-- Which places of a table are used, and with which partition values. A place is the number of a chunk and a slot of the chunk.
use Rattle.std.specs.Prelude.{◌≡◌, ℕ, ◌<◌, ◌≤◌, ◌%◌, Bool, true, false, ◌==◌, if◌then◌else◌, is_some, List, [], ◌∷◌, slice_index_or, Option, Some, None, MatchOption}
use Rattle.std.specs.List.{AllPairs}
use Rattle.vec_base.specs.declared.limits.TheConstants.{MOST_CHUNK_SIZE}
use Rattle.vec_base.specs.declared.value.Value.{Value}
use Rattle.slot_alloc.specs.declared.chunk.Chunk.{Chunk}

-- how many slots a chunk has, and the chunks
pub record PlaceMap : Type 0 where
  pub size : ℕ
  pub chunks : List Chunk

abbrev pub IsChunkSize : ℕ → Type 0
IsChunkSize size = (0 < size) × (size % 8 ≡ 0) × (size ≤ MOST_CHUNK_SIZE)

-- the chunk with a number
abbrev pub chunk_with : List Chunk → ℕ → Option Chunk
chunk_with [] c = None
chunk_with (x ∷ xs) c = if c == x.number then Some x else chunk_with xs c

abbrev pub partition_in : Option Chunk → Option (List Value)
partition_in None = None
partition_in (Some x) = Some x.partition

abbrev pub partition_in_slot : Option Chunk → ℕ → Option (List Value)
partition_in_slot None s = None
partition_in_slot (Some x) s = if slice_index_or x.used s false then Some x.partition else None

-- the partition values of a chunk, and those of a used place
abbrev pub partition_of_chunk : PlaceMap → ℕ → Option (List Value)
partition_of_chunk places c = partition_in (chunk_with places.chunks c)

abbrev pub partition_at : PlaceMap → ℕ → ℕ → Option (List Value)
partition_at places c s = partition_in_slot (chunk_with places.chunks c) s

abbrev pub has_chunk : PlaceMap → ℕ → Bool
has_chunk places c = is_some (partition_of_chunk places c)

abbrev pub is_used : PlaceMap → ℕ → ℕ → Bool
is_used places c s = is_some (partition_at places c s)

abbrev pub IsFull : PlaceMap → ℕ → Type 0
IsFull places c = (t : ℕ) → t < places.size → is_used places c t ≡ true

-- the least number of a chunk above another number
abbrev pub IsNextChunk : PlaceMap → ℕ → Option ℕ → Type 0
IsNextChunk places after next =
    MatchOption next
    ((d : ℕ) → after < d → has_chunk places d ≡ false)
    (λ c. (after < c) × (has_chunk places c ≡ true) × ((d : ℕ) → after < d → d < c → has_chunk places d ≡ false))

-- What is so of every table: numbers of chunks rise and are positive, each chunk has a used slot, and used slots are within the size and have the values
-- of their chunk.
pub record IsPlaceMap (places : PlaceMap) : Type 0 where
  pub size : IsChunkSize places.size
  pub rise : AllPairs (λ x y. x.number < y.number) places.chunks
  pub positive : has_chunk places 0 ≡ false
  pub within : (c s : ℕ) → is_used places c s ≡ true → s < places.size
  pub alike : (c s : ℕ) (partition : List Value) → partition_at places c s ≡ Some partition → partition_of_chunk places c ≡ Some partition
  pub occupied : (c : ℕ) → has_chunk places c ≡ true → (s : ℕ) × (is_used places c s ≡ true)
