-- Slots, each free or used by a row with a vector for each vector column. Vectors are seen as their bytes.
use Rattle.std.specs.Prelude.{ℕ, ℤ, List, [], map, replicate, Option, None, Some, slice_index_or, slice_set}
use Rattle.std.specs.List.{filter_map}
use Rattle.vec_base.specs.declared.value.Value.{Value}
use Rattle.vec_base.specs.declared.value.Value.TheVariants.{Null, Int, Text, Blob, Int8, Bits}

pub record UsedSlot : Type 0 where
  pub rowid : ℤ
  pub vectors : List (List ℕ)

-- the bytes of a vector of each column, and the slots
pub record Slots : Type 0 where
  pub widths : List ℕ
  pub slots : List (Option UsedSlot)

abbrev pub used_by : ℤ → List (List ℕ) → Option UsedSlot
used_by rowid vectors = Some (record { rowid = rowid; vectors = vectors })

abbrev pub slot_at : Slots → ℕ → Option UsedSlot
slot_at chunk slot = slice_index_or chunk.slots slot None

abbrev pub rowid_of : Option UsedSlot → Option ℤ
rowid_of None = None
rowid_of (Some used) = Some used.rowid

abbrev pub vectors_in : Option UsedSlot → List (List ℕ)
vectors_in None = []
vectors_in (Some used) = used.vectors

abbrev pub vector_at : Slots → ℕ → ℕ → List ℕ
vector_at chunk slot column = slice_index_or (vectors_in (slot_at chunk slot)) column []

-- no slot is used
abbrev pub all_free : ℕ → List ℕ → Slots
all_free size widths = record { widths = widths; slots = replicate size None }

-- the chunk with other content of a slot
abbrev pub with_slot : ℕ → Option UsedSlot → Slots → Slots
with_slot slot content chunk = record { widths = chunk.widths; slots = slice_set chunk.slots slot content }

-- the content of a slot with another vector in a column
abbrev pub with_vector : ℕ → List ℕ → Option UsedSlot → Option UsedSlot
with_vector column vector None = None
with_vector column vector (Some used) = used_by used.rowid (slice_set used.vectors column vector)

-- a vector of zeros for each column
abbrev pub zero_vectors : List ℕ → List (List ℕ)
zero_vectors widths = map (λ width. replicate width 0) widths

-- the vector that a value is, if it is one
abbrev pub vector_of : Value → Option (List ℕ)
vector_of Null = None
vector_of (Int number) = None
vector_of (Text text) = None
vector_of (Blob bytes) = None
vector_of (Int8 vector) = Some vector
vector_of (Bits vector) = Some vector

-- the vectors among values, in order
abbrev pub vectors_of : List Value → List (List ℕ)
vectors_of values = filter_map vector_of values
