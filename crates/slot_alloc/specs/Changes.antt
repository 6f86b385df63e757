-- What becomes of the used places where one is added or given back.
use Rattle.std.specs.Prelude.{◌≡◌, ℕ, Bool, ◌&&◌, ◌==◌, if◌then◌else◌, List, Some, None}
use Rattle.vec_base.specs.declared.value.Value.{Value}
use Rattle.slot_alloc.specs.Places.{PlaceMap, partition_at, partition_of_chunk}

-- one place more is used, with these partition values, and all others are as before
pub record UsesAlso (old : PlaceMap) (c s : ℕ) (partition : List Value) (new : PlaceMap) : Type 0 where
  pub size : new.size ≡ old.size
  pub places : (d t : ℕ) → partition_at new d t ≡ (if d == c && t == s then Some partition else partition_at old d t)
  pub chunks : (d : ℕ) → partition_of_chunk new d ≡ (if d == c then Some partition else partition_of_chunk old d)

-- a place is no longer used, its chunk is there no longer where it was emptied, and all others are as before
pub record UsesNoMore (old : PlaceMap) (c s : ℕ) (emptied : Bool) (new : PlaceMap) : Type 0 where
  pub size : new.size ≡ old.size
  pub places : (d t : ℕ) → partition_at new d t ≡ (if d == c && t == s then None else partition_at old d t)
  pub chunks : (d : ℕ) → partition_of_chunk new d ≡ (if d == c && emptied then None else partition_of_chunk old d)
