-- Which place a new row takes. Source: vec0's chunks, and the rule that the lowest free place of its partition values is taken.
use Rattle.std.specs.Prelude.{◌≡◌, ℕ, ◌<◌, true, false, List, Some}
use Rattle.vec_base.specs.declared.value.Value.{Value}
use Rattle.slot_alloc.specs.declared.place.Place.{Place}
use Rattle.slot_alloc.specs.declared.place.Place.TheVariants.{Slot, NewChunk}
use Rattle.slot_alloc.specs.Places.{PlaceMap, has_chunk, is_used, partition_of_chunk, IsFull}

-- the lowest free slot of the lowest chunk of the partition values that has one
pub record IsLowestFree (places : PlaceMap) (partition : List Value) (c s : ℕ) : Type 0 where
  pub chunk : partition_of_chunk places c ≡ Some partition
  pub within : s < places.size
  pub free : is_used places c s ≡ false
  pub lower_slots : (t : ℕ) → t < s → is_used places c t ≡ true
  pub lower_chunks : (d : ℕ) → d < c → partition_of_chunk places d ≡ Some partition → IsFull places d

-- no chunk of the partition values has a free slot, and the number is the lowest positive one that no chunk has
pub record IsLowestNew (places : PlaceMap) (partition : List Value) (c : ℕ) : Type 0 where
  pub full : (d : ℕ) → partition_of_chunk places d ≡ Some partition → IsFull places d
  pub positive : 0 < c
  pub unused : has_chunk places c ≡ false
  pub lower : (d : ℕ) → 0 < d → d < c → has_chunk places d ≡ true

-- the place that a row with these partition values takes
abbrev pub IsPlaceFor : PlaceMap → List Value → Place → Type 0
IsPlaceFor places partition (Slot c s) = IsLowestFree places partition c s
IsPlaceFor places partition (NewChunk c) = IsLowestNew places partition c

abbrev pub chunk_of : Place → ℕ
chunk_of (Slot c s) = c
chunk_of (NewChunk c) = c

abbrev pub slot_of : Place → ℕ
slot_of (Slot c s) = s
slot_of (NewChunk c) = 0
