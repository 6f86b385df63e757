-- Vectors of one width in blocks, each of which holds those of eight slots, one behind another.
use Rattle.std.specs.Prelude.{◌≡◌, ℕ, ◌*◌, ◌/◌, ◌%◌, List, [], ◌++◌, length, map, take, drop, slice_index_or, slice_set}
use Rattle.std.specs.List.{All, range_with_len}

-- a block with bytes written over its own from a place on
abbrev pub overwritten : ℕ → List ℕ → List ℕ → List ℕ
overwritten at bytes block = take at block ++ (bytes ++ drop (length bytes) (drop at block))

-- the vector of a slot
abbrev pub vector_in : ℕ → List (List ℕ) → ℕ → List ℕ
vector_in width blocks slot = take width (drop (slot % 8 * width) (slice_index_or blocks (slot / 8) []))

pub record VectorColumn : Type 0 where
  pub width : ℕ
  pub vectors : List (List ℕ)

abbrev pub column_of : ℕ → List (List ℕ) → VectorColumn
column_of width blocks = record { width = width; vectors = map (vector_in width blocks) (range_with_len 0 (8 * length blocks)) }

-- each block has the bytes of eight vectors
abbrev pub AreBlocks : ℕ → List (List ℕ) → Type 0
AreBlocks width blocks = All (λ block. length block ≡ 8 * width) blocks

-- the column with another vector for a slot
abbrev pub column_with : ℕ → List ℕ → VectorColumn → VectorColumn
column_with slot vector column = record { width = column.width; vectors = slice_set column.vectors slot vector }
