-- Bytes as lists of truth values. Source: the validity blobs of vec0's chunks, in which slot i is bit i % 8 of byte i / 8, the lowest bit first.
use Rattle.std.specs.Prelude.{ℕ, ◌*◌, ◌/◌, ◌%◌, Bool, not, ◌==◌, List, map, length, drop, slice_index, Option}
use Rattle.std.specs.Int.{bit_at}
use Rattle.std.specs.List.{position_from, range_with_len}

-- the truth value at a place
abbrev pub is_set_in : List ℕ → ℕ → Bool
is_set_in bytes place = bit_at (slice_index bytes (place / 8)) (place % 8) == 1

abbrev pub bits_of : List ℕ → List Bool
bits_of bytes = map (is_set_in bytes) (range_with_len 0 (8 * length bytes))

-- the least place that is false
abbrev pub first_clear_of : List Bool → Option ℕ
first_clear_of bits = position_from (λ bit. not bit) 0 bits

-- the least place from one on that is true
abbrev pub next_set_of : ℕ → List Bool → Option ℕ
next_set_of from bits = position_from (λ bit. bit) from (drop from bits)
