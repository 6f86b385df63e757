-- How the used places are kept: chunks by rising numbers, and an index of the chunks that may have a free slot.
use Rattle.std.specs.Prelude.{◌≡◌, ℕ, ◌<◌, true, false, List, length, Some}
use Rattle.std.specs.Cmp.Lexicographic.{slice_cmp}
use Rattle.std.specs.List.{All, AllPairs, Contains}
use Rattle.std.specs.Ordering.{nat_cmp, on, then_cmp}
use Rattle.std.specs.declared.cmp.Ordering.{Ordering}
use Rattle.std.specs.declared.cmp.Ordering.TheVariants.{Less}
use Rattle.vec_base.specs.declared.value.Value.{Value}
use Rattle.slot_alloc.specs.declared.chunk.Chunk.{Chunk}
use Rattle.slot_alloc.specs.declared.spare.Spare.{Spare}
use Rattle.slot_alloc.specs.Places.{PlaceMap, partition_of_chunk, is_used, IsChunkSize}
use Rattle.slot_alloc.specs.inner.Orders.{value_cmp}

abbrev pub NumbersRise : List Chunk → Type 0
NumbersRise xs = AllPairs (λ x y. x.number < y.number) xs

-- a chunk is as it has to be: at least one of its slots is used
pub record IsChunk (size : ℕ) (x : Chunk) : Type 0 where
  pub positive : 0 < x.number
  pub sized : length x.used ≡ size
  pub occupied : Contains x.used true

pub record AreChunks (size : ℕ) (xs : List Chunk) : Type 0 where
  pub fits : IsChunkSize size
  pub rise : NumbersRise xs
  pub each : All (IsChunk size) xs

-- entries by partition values, then by numbers
abbrev pub spare_cmp : Spare → Spare → Ordering
spare_cmp = then_cmp (on (λ e. e.partition) (slice_cmp value_cmp)) (on (λ e. e.number) nat_cmp)

abbrev pub IsInOrder : List Spare → Type 0
IsInOrder es = AllPairs (λ x y. spare_cmp x y ≡ Less) es

-- each chunk with a free slot is in the index
pub record ListsSpare (places : PlaceMap) (es : List Spare) : Type 0 where
  pub listed : (c s : ℕ) (partition : List Value) → partition_of_chunk places c ≡ Some partition → s < places.size → is_used places c s ≡ false → Contains es (record { partition = partition; number = c })
