-- Between which tables changes lead, and the next chunk and row that may differ.
use Rattle.std.specs.Prelude.{◌≡◌, ℕ, ◌<◌, ℤ, pos, int_lt, true, Option, Some, None, MatchOption, ⊤}
use Rattle.row_index.specs.Entries.{is_behind}
use Rattle.row_model.specs.declared.schema.Schema.{Schema}
use Rattle.shadow_records.specs.PlacedTables.{PlacedTable, IsPlaced}
use Rattle.table_version.specs.Versions.{Follows}
use Rattle.table_changes.specs.declared.turn.Turn.{Turn}
use Rattle.table_changes.specs.declared.turn.Turn.TheVariants.{Over, Made, Gone}
use Rattle.table_changes.specs.inner.KeySets.{AreSame, is_chunk_kind, is_row_kind}

abbrev pub older_in : Turn → Option PlacedTable
older_in (Over older newer) = Some older.now.table
older_in (Made newer) = None
older_in (Gone older) = Some older.now.table

abbrev pub newer_in : Turn → Option PlacedTable
newer_in (Over older newer) = Some newer.now.table
newer_in (Made newer) = Some newer.now.table
newer_in (Gone older) = None

-- a newer table follows the older one, where both are there
abbrev pub IsTurn : Turn → Type 0
IsTurn (Over older newer) = Follows older.now.table newer.now
IsTurn (Made newer) = ⊤
IsTurn (Gone older) = ⊤

abbrev pub IsSound : Option PlacedTable → Type 0
IsSound None = ⊤
IsSound (Some table) = IsPlaced table

-- the tables are sound ones
abbrev pub AreSound : Turn → Type 0
AreSound turn = IsSound (older_in turn) × IsSound (newer_in turn)

abbrev pub HasSchema : Option PlacedTable → Schema → Type 0
HasSchema None schema = ⊤
HasSchema (Some table) schema = table.schema ≡ schema

-- the tables have the schema
abbrev pub HaveSchema : Turn → Schema → Type 0
HaveSchema turn schema = HasSchema (older_in turn) schema × HasSchema (newer_in turn) schema

abbrev pub IsSameChunk : Turn → ℕ → Type 0
IsSameChunk turn chunk = AreSame is_chunk_kind (older_in turn) (newer_in turn) (pos chunk)

abbrev pub IsSameRow : Turn → ℤ → Type 0
IsSameRow turn rowid = AreSame is_row_kind (older_in turn) (newer_in turn) rowid

-- the chunks above the last one are the same, up to the next one
abbrev pub IsNextChunk : Turn → ℕ → Option ℕ → Type 0
IsNextChunk turn last next =
    MatchOption next
    ((d : ℕ) → last < d → IsSameChunk turn d)
    (λ chunk. (last < chunk) × ((d : ℕ) → last < d → d < chunk → IsSameChunk turn d))

-- the rows behind the last one are the same, up to the next one
abbrev pub IsNextRow : Turn → Option ℤ → Option ℤ → Type 0
IsNextRow turn last next =
    MatchOption next
    ((i : ℤ) → is_behind last i ≡ true → IsSameRow turn i)
    (λ rowid. (is_behind last rowid ≡ true) × ((i : ℤ) → is_behind last i ≡ true → int_lt i rowid ≡ true → IsSameRow turn i))
