-- Lists of entries by rising rowids: what is found by a rowid or an id, and what one entry more or less makes of them.
use Rattle.std.specs.Prelude.{ℕ, ℤ, int_lt, Bool, true, false, not, ◌&&◌, if◌then◌else◌, List, [], ◌∷◌, filter, find, bytes_eq, Some, None}
use Rattle.std.specs.declared.option.Option.{Option}
use Rattle.std.specs.List.{list_all, list_any}
use Rattle.std.specs.Option.{option_map, option_and_then}
use Rattle.std.specs.Ordering.{int_eq}
use Rattle.row_index.specs.declared.entry.Entry.{Entry}

-- ---- by a rowid

-- some entry has the rowid
abbrev pub has_rowid : ℤ → List Entry → Bool
has_rowid rowid entries = list_any (λ entry. int_eq entry.rowid rowid) entries

abbrev pub entry_of : ℤ → List Entry → Option Entry
entry_of rowid entries = find (λ entry. int_eq entry.rowid rowid) entries

-- the chunk and the slot of the row
abbrev pub place_of : ℤ → List Entry → Option (ℕ × ℕ)
place_of rowid entries = option_map (λ entry. (entry.chunk, entry.slot)) (entry_of rowid entries)

abbrev pub id_of : ℤ → List Entry → Option (List ℕ)
id_of rowid entries = option_and_then (λ entry. entry.id) (entry_of rowid entries)

-- the rowid is above the one that is given, if one is
abbrev pub is_behind : Option ℤ → ℤ → Bool
is_behind None rowid = true
is_behind (Some after) rowid = int_lt after rowid

-- the first rowid above one, or the first of all
abbrev pub next_after : Option ℤ → List Entry → Option ℤ
next_after after entries = option_map (λ entry. entry.rowid) (find (λ entry. is_behind after entry.rowid) entries)

-- ---- by an id

abbrev pub is_text : List ℕ → Option (List ℕ) → Bool
is_text id None = false
is_text id (Some text) = bytes_eq text id

abbrev pub has_id : List ℕ → Entry → Bool
has_id id entry = is_text id entry.id

-- the rowid of the entry that has the id
abbrev pub rowid_of : List ℕ → List Entry → Option ℤ
rowid_of id entries = option_map (λ entry. entry.rowid) (find (has_id id) entries)

-- ---- changes

-- the entries with one more, before the first of a greater rowid
abbrev pub with_entry : Entry → List Entry → List Entry
with_entry entry [] = entry ∷ []
with_entry entry (x ∷ xs) = if int_lt entry.rowid x.rowid then entry ∷ x ∷ xs else x ∷ with_entry entry xs

-- the entries of all other rowids
abbrev pub without : ℤ → List Entry → List Entry
without rowid entries = filter (λ entry. not (int_eq entry.rowid rowid)) entries

-- ---- what holds of the entries of an index

-- each rowid is less than those of all entries behind it
abbrev pub is_rising : List Entry → Bool
is_rising [] = true
is_rising (x ∷ xs) = list_all (λ entry. int_lt x.rowid entry.rowid) xs && is_rising xs

-- both have one id
abbrev pub is_same_id : Option (List ℕ) → Entry → Bool
is_same_id None entry = false
is_same_id (Some id) entry = has_id id entry

-- no two entries have one id
abbrev pub have_own_ids : List Entry → Bool
have_own_ids [] = true
have_own_ids (x ∷ xs) = not (list_any (is_same_id x.id) xs) && have_own_ids xs
