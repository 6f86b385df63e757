-- Sets of keys of one table.
use Rattle.std.specs.Prelude.{◌≡◌, ℕ, ℤ, pos, negsuc, Bool, true, false, not, ◌&&◌, ◌||◌, ◌==◌, nat_lt, nat_le, Option}
use Rattle.std.specs.Ordering.{int_eq}
use Rattle.vec_base.specs.declared.shadow.ShadowKey.{ShadowKey}
use Rattle.row_index.specs.Entries.{is_behind}
use Rattle.shadow_records.specs.PlacedTables.{PlacedTable}
use Rattle.shadow_records.specs.StandsFor.{record_in}
use Rattle.shadow_records.specs.declared.kinds.TheConstants.{INFO_RECORDS, CHUNK_RECORDS, ROW_RECORDS, VECTOR_RECORDS, METADATA_RECORDS, LONG_TEXT_RECORDS, AUXILIARY_RECORDS}

-- ---- kinds

abbrev pub is_info_kind : ℕ → Bool
is_info_kind kind = kind == INFO_RECORDS

abbrev pub is_chunk_kind : ℕ → Bool
is_chunk_kind kind = kind == CHUNK_RECORDS || (kind == VECTOR_RECORDS || kind == METADATA_RECORDS)

abbrev pub is_row_kind : ℕ → Bool
is_row_kind kind = kind == ROW_RECORDS || (kind == LONG_TEXT_RECORDS || kind == AUXILIARY_RECORDS)

-- ---- keys

-- the keys of kinds
abbrev pub is_of : (ℕ → Bool) → ℕ → ShadowKey → Bool
is_of kinds number key = kinds key.kind && key.table == number

-- the keys of kinds whose first number is in a set
abbrev pub is_within : (ℕ → Bool) → ℕ → (ℤ → Bool) → ShadowKey → Bool
is_within kinds number firsts key = is_of kinds number key && firsts key.a

-- the keys of a kind and a first number
abbrev pub is_in_group : ℕ → ℕ → ℤ → ShadowKey → Bool
is_in_group number kind a key = is_within (λ k. k == kind) number (λ i. int_eq i a) key

-- ---- first numbers

-- a number from 0 that is less than another
abbrev pub is_below : ℕ → ℤ → Bool
is_below count (pos n) = nat_lt n count
is_below count (negsuc n) = false

-- a number from 1 that is at most another
abbrev pub is_up_to : ℕ → ℤ → Bool
is_up_to last (pos n) = nat_lt 0 n && nat_le n last
is_up_to last (negsuc n) = false

-- at most a rowid, where there is one
abbrev pub is_not_behind : Option ℤ → ℤ → Bool
is_not_behind last rowid = not (is_behind last rowid)

-- both tables have the same records of these kinds and this first number
abbrev pub AreSame : (ℕ → Bool) → Option PlacedTable → Option PlacedTable → ℤ → Type 0
AreSame kinds older newer a = (key : ShadowKey) → kinds key.kind ≡ true → key.a ≡ a → record_in older key ≡ record_in newer key
