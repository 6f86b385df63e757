-- The next chunk and the next row that may differ.
use Rattle.std.proofs.Common.{◌≡◌, ℕ, ◌<◌, ℤ, int_lt, List, [], ◌∷◌, cond, Bool, true, false, ◌&&◌, ◌||◌, Option, Some, None, is_some, refl, sym, ap, ◌∙◌, subst, arith, Bor}
use Rattle.std.specs.Prelude.{MatchOption}
use Rattle.std.specs.List.{find, list_all}
use Rattle.std.specs.Option.{option_map}
use Rattle.std.specs.Ordering.{int_eq}
use Rattle.std.proofs.lemmas.Bool.{false≢true, and_parts, false_from_ne_true}
use Rattle.std.proofs.lemmas.Bool.Decides.{Decides-int_eq}
use Rattle.std.proofs.lemmas.Int.{ints}
use Rattle.row_index.specs.Entries.{has_rowid, is_behind, is_rising, next_after}
use Rattle.row_index.specs.declared.entry.Entry.{Entry}
use Rattle.row_model.specs.Rows.{is_rising as rows_rise}
use Rattle.row_model.specs.declared.row.Row.{Row}
use Rattle.row_store.specs.Keyed.{keyed_by, keys_rise}
use Rattle.row_store.specs.StoredRows.{is_above}
use Rattle.slot_alloc.specs.Places.{PlaceMap, chunk_with, has_chunk, is_used, partition_in, partition_in_slot}
use Rattle.slot_alloc.specs.Places.{IsNextChunk as IsNextUsed}
use Rattle.slot_alloc.specs.declared.chunk.Chunk.{Chunk}
use Rattle.record_bodies.proofs.FindLaws.{found_passes, some_is}
use Rattle.shadow_records.specs.PlacedTables.{PlacedRow, PlacedTable, IsPlaced, first_in, plain_rows, row_of}
use Rattle.shadow_records.specs.Records.{body_at}
use Rattle.table_version.specs.Versions.{Follows, VersionState, next_row, rowid_in}
use Rattle.table_changes.specs.declared.turn.Turn.{Turn}
use Rattle.table_changes.specs.declared.turn.Turn.TheVariants.{Over, Made, Gone}
use Rattle.table_changes.specs.inner.Turns.{IsNextChunk, IsNextRow, IsSameChunk, IsSameRow, IsTurn}
use Rattle.table_changes.proofs.SameLaws.{no_chunk, no_row, same_chunk, same_row}

never : {A : Type 0} (b : Bool) → b ≡ true → b ≡ false → A
never b t f = absurd (false≢true (sym f ∙ t))

match_more : {X : Type 0} (o : Option X) (P P' : Type 0) (Q Q' : X → Type 0) → (P → P') → ((x : X) → Q x → Q' x) → MatchOption o P Q → MatchOption o P' Q'
match_more None P P' Q Q' none some holds = none holds
match_more (Some x) P P' Q Q' none some holds = some x holds

-- ---- the next of rising keys

lt_apart : (k i : ℤ) → int_lt i k ≡ true → int_eq k i ≡ false
lt_apart k i less = grind (arith, ints)

lt_trans : (a b c : ℤ) → int_lt a b ≡ true → int_lt b c ≡ true → int_lt a c ≡ true
lt_trans a b c h k = grind (arith, ints)

nowhere : {A : Type 0} (key : A → ℤ) (xs : List A) (k i : ℤ) → list_all (λ x. int_lt k (key x)) xs ≡ true → int_lt i k ≡ true → keyed_by key i xs ≡ None
nowhere key [] k i all less = refl
nowhere key (x ∷ xs) k i all less =
    let parts = and_parts (int_lt k (key x)) (list_all (λ y. int_lt k (key y)) xs) all in
    ap (λ b. cond b (Some x) (keyed_by key i xs)) (lt_apart (key x) i (lt_trans i k (key x) less parts.0)) ∙ nowhere key xs k i parts.1 less

other_key : (test : ℤ → Bool) (k i : ℤ) → test k ≡ false → test i ≡ true → int_eq k i ≡ false
other_key test k i out is = false_from_ne_true (int_eq k i) (λ e. never (test i) is (ap test (sym ((Decides-int_eq k i).0 e)) ∙ out))

past : {A : Type 0} (key : A → ℤ) (test : ℤ → Bool) (xs : List A) → find (λ x. test (key x)) xs ≡ None → (i : ℤ) → test i ≡ true → keyed_by key i xs ≡ None
past key test [] none i is = refl
past key test (x ∷ xs) none i is = by (test (key x)) refl none (past key test xs) where
  by : (b : Bool) → test (key x) ≡ b → cond b (Some x) (find (λ y. test (key y)) xs) ≡ None → (find (λ y. test (key y)) xs ≡ None → (j : ℤ) → test j ≡ true → keyed_by key j xs ≡ None) → keyed_by key i (x ∷ xs) ≡ None
  by true e f rest = absurd cc
  by false e f rest = ap (λ b. cond b (Some x) (keyed_by key i xs)) (other_key test (key x) i e is) ∙ rest f i is

between : {A : Type 0} (key : A → ℤ) (test : ℤ → Bool) (xs : List A) (y : A) → keys_rise key xs ≡ true → find (λ x. test (key x)) xs ≡ Some y → (i : ℤ) → test i ≡ true → int_lt i (key y) ≡ true → keyed_by key i xs ≡ None
between key test [] y rises found i is less = absurd cc
between key test (x ∷ xs) y rises found i is less = by (test (key x)) refl found (between key test xs y) where
  by : (b : Bool) → test (key x) ≡ b → cond b (Some x) (find (λ z. test (key z)) xs) ≡ Some y
      → (keys_rise key xs ≡ true → find (λ z. test (key z)) xs ≡ Some y → (j : ℤ) → test j ≡ true → int_lt j (key y) ≡ true → keyed_by key j xs ≡ None) → keyed_by key i (x ∷ xs) ≡ None
  by true e f rest =
      let same : key y ≡ key x = ap key (sym (some_is f)) in
      let under : int_lt i (key x) ≡ true = ap (int_lt i) (sym same) ∙ less in
      ap (λ b. cond b (Some x) (keyed_by key i xs)) (lt_apart (key x) i under) ∙ nowhere key xs (key x) i (and_parts (list_all (λ z. int_lt (key x) (key z)) xs) (keys_rise key xs) rises).0 under
  by false e f rest = ap (λ b. cond b (Some x) (keyed_by key i xs)) (other_key test (key x) i e is) ∙ rest (and_parts (list_all (λ z. int_lt (key x) (key z)) xs) (keys_rise key xs) rises).1 f i is less

next_of : {A : Type 0} (key : A → ℤ) (test : ℤ → Bool) (xs : List A) → keys_rise key xs ≡ true → (o : Option A) → find (λ x. test (key x)) xs ≡ o
    → MatchOption (option_map key o) ((i : ℤ) → test i ≡ true → keyed_by key i xs ≡ None)
    (λ r. (test r ≡ true) × ((i : ℤ) → test i ≡ true → int_lt i r ≡ true → keyed_by key i xs ≡ None))
next_of key test xs rises None found = past key test xs found
next_of key test xs rises (Some y) found = (found_passes (λ x. test (key x)) xs y found, between key test xs y rises found)

-- ---- touched rowids

entry_key : Entry → ℤ
entry_key entry = entry.rowid

entries_rise : (entries : List Entry) → is_rising entries ≡ true → keys_rise entry_key entries ≡ true
unfolding entry_key
entries_rise [] e = refl
entries_rise (x ∷ xs) e = let parts = and_parts (list_all (λ entry. int_lt x.rowid entry.rowid) xs) (is_rising xs) e in ap (λ b. b && keys_rise entry_key xs) parts.0 ∙ entries_rise xs parts.1

none_any : (entries : List Entry) (i : ℤ) → keyed_by entry_key i entries ≡ None → has_rowid i entries ≡ false
unfolding entry_key
none_any [] i e = refl
none_any (x ∷ xs) i e = by (int_eq x.rowid i) e (none_any xs i) where
  by : (b : Bool) → cond b (Some x) (keyed_by entry_key i xs) ≡ None → (keyed_by entry_key i xs ≡ None → has_rowid i xs ≡ false) → (b || has_rowid i xs) ≡ false
  by true f rest = absurd cc
  by false f rest = rest f

over_row : (older newer : Bor VersionState) → Follows older.now.table newer.now → (i : ℤ) → has_rowid i newer.now.touches.rows ≡ false → IsSameRow (Over older newer) i
over_row older newer follows i none = same_row older.now.table newer.now.table i follows.schema (follows.by_rowid i none)

pub next_over : (turn : Turn) (older newer : Bor VersionState) → turn ≡ Over older newer → IsTurn turn → is_rising newer.now.touches.rows ≡ true → (last next : Option ℤ) → next ≡ next_after last newer.now.touches.rows → IsNextRow turn last next
unfolding entry_key
next_over turn older newer is follows rises last next found =
    let P : Turn → Type 0 = λ t. IsTurn t in
    let Q : Turn → Type 0 = λ t. IsNextRow t last next in
    let R : Option ℤ → Type 0 = λ n. IsNextRow (Over older newer) last n in
    let now : Follows older.now.table newer.now = subst P is follows in
    let entries = newer.now.touches.rows in
    let there = next_of entry_key (is_behind last) entries (entries_rise entries rises) (find (λ entry. is_behind last entry.rowid) entries) refl in
    subst Q (sym is) (subst R (sym found) (match_more (next_after last entries)
    ((i : ℤ) → is_behind last i ≡ true → keyed_by entry_key i entries ≡ None) ((i : ℤ) → is_behind last i ≡ true → IsSameRow (Over older newer) i)
    (λ r. (is_behind last r ≡ true) × ((i : ℤ) → is_behind last i ≡ true → int_lt i r ≡ true → keyed_by entry_key i entries ≡ None))
    (λ r. (is_behind last r ≡ true) × ((i : ℤ) → is_behind last i ≡ true → int_lt i r ≡ true → IsSameRow (Over older newer) i))
    (λ none i behind. over_row older newer now i (none_any entries i (none i behind)))
    (λ r parts. (parts.0, λ i behind less. over_row older newer now i (none_any entries i (parts.1 i behind less)))) there))

-- ---- rowids of rows

placed_key : PlacedRow → ℤ
placed_key placed = placed.row.rowid

above_all : (k : ℤ) (rows : List PlacedRow) → list_all (λ (row : Row). int_lt k row.rowid) (plain_rows rows) ≡ list_all (λ placed. int_lt k (placed_key placed)) rows
unfolding placed_key
above_all k [] = refl
above_all k (p ∷ rows) = ap (λ b. int_lt k p.row.rowid && b) (above_all k rows)

placed_rise : (rows : List PlacedRow) → rows_rise (plain_rows rows) ≡ true → keys_rise placed_key rows ≡ true
unfolding placed_key
placed_rise [] e = refl
placed_rise (p ∷ rows) e =
    let parts = and_parts (list_all (λ (row : Row). int_lt p.row.rowid row.rowid) (plain_rows rows)) (rows_rise (plain_rows rows)) e in
    ap (λ b. b && keys_rise placed_key rows) (sym (above_all p.row.rowid rows) ∙ parts.0) ∙ placed_rise rows parts.1

above_behind : (last : Option ℤ) (i : ℤ) → is_above last i ≡ is_behind last i
above_behind None i = refl
above_behind (Some l) i = refl

-- the rowids of a table's rows, one after another
rows_next : (table : PlacedTable) → IsPlaced table → (last next : Option ℤ) → next ≡ option_map rowid_in (next_row last table.rows)
    → MatchOption next ((i : ℤ) → is_behind last i ≡ true → row_of table.rows i ≡ None)
    (λ r. (is_behind last r ≡ true) × ((i : ℤ) → is_behind last i ≡ true → int_lt i r ≡ true → row_of table.rows i ≡ None))
unfolding placed_key
rows_next table placed last next found =
    let R : Option ℤ → Type 0 = λ n. MatchOption n ((i : ℤ) → is_behind last i ≡ true → row_of table.rows i ≡ None) (λ r. (is_behind last r ≡ true) × ((i : ℤ) → is_behind last i ≡ true → int_lt i r ≡ true → row_of table.rows i ≡ None)) in
    let there = next_of placed_key (is_above last) table.rows (placed_rise table.rows placed.valid.rising) (next_row last table.rows) refl in
    let turned : (i : ℤ) → is_behind last i ≡ true → is_above last i ≡ true = λ i e. above_behind last i ∙ e in
    subst R (sym found) (match_more (option_map rowid_in (next_row last table.rows))
    ((i : ℤ) → is_above last i ≡ true → row_of table.rows i ≡ None) ((i : ℤ) → is_behind last i ≡ true → row_of table.rows i ≡ None)
    (λ r. (is_above last r ≡ true) × ((i : ℤ) → is_above last i ≡ true → int_lt i r ≡ true → row_of table.rows i ≡ None))
    (λ r. (is_behind last r ≡ true) × ((i : ℤ) → is_behind last i ≡ true → int_lt i r ≡ true → row_of table.rows i ≡ None))
    (λ none i e. none i (turned i e)) (λ r parts. (sym (above_behind last r) ∙ parts.0, λ i e less. parts.1 i (turned i e) less)) there)

made_row : (newer : Bor VersionState) (i : ℤ) → row_of newer.now.table.rows i ≡ None → IsSameRow (Made newer) i
made_row newer i none key is at =
    sym (ap (λ a. body_at newer.now.table key.kind a key.b) at ∙ no_row newer.now.table key.kind i key.b is none)

gone_row : (older : Bor VersionState) (i : ℤ) → row_of older.now.table.rows i ≡ None → IsSameRow (Gone older) i
gone_row older i none key is at = ap (λ a. body_at older.now.table key.kind a key.b) at ∙ no_row older.now.table key.kind i key.b is none

pub next_made : (turn : Turn) (newer : Bor VersionState) → turn ≡ Made newer → IsPlaced newer.now.table → (last next : Option ℤ) → next ≡ option_map rowid_in (next_row last newer.now.table.rows) → IsNextRow turn last next
next_made turn newer is placed last next found =
    let Q : Turn → Type 0 = λ t. IsNextRow t last next in
    let rows = newer.now.table.rows in
    subst Q (sym is) (match_more next
    ((i : ℤ) → is_behind last i ≡ true → row_of rows i ≡ None) ((i : ℤ) → is_behind last i ≡ true → IsSameRow (Made newer) i)
    (λ r. (is_behind last r ≡ true) × ((i : ℤ) → is_behind last i ≡ true → int_lt i r ≡ true → row_of rows i ≡ None))
    (λ r. (is_behind last r ≡ true) × ((i : ℤ) → is_behind last i ≡ true → int_lt i r ≡ true → IsSameRow (Made newer) i))
    (λ none i e. made_row newer i (none i e)) (λ r parts. (parts.0, λ i e less. made_row newer i (parts.1 i e less))) (rows_next newer.now.table placed last next found))

pub next_gone : (turn : Turn) (older : Bor VersionState) → turn ≡ Gone older → IsPlaced older.now.table → (last next : Option ℤ) → next ≡ option_map rowid_in (next_row last older.now.table.rows) → IsNextRow turn last next
next_gone turn older is placed last next found =
    let Q : Turn → Type 0 = λ t. IsNextRow t last next in
    let rows = older.now.table.rows in
    subst Q (sym is) (match_more next
    ((i : ℤ) → is_behind last i ≡ true → row_of rows i ≡ None) ((i : ℤ) → is_behind last i ≡ true → IsSameRow (Gone older) i)
    (λ r. (is_behind last r ≡ true) × ((i : ℤ) → is_behind last i ≡ true → int_lt i r ≡ true → row_of rows i ≡ None))
    (λ r. (is_behind last r ≡ true) × ((i : ℤ) → is_behind last i ≡ true → int_lt i r ≡ true → IsSameRow (Gone older) i))
    (λ none i e. gone_row older i (none i e)) (λ r parts. (parts.0, λ i e less. gone_row older i (parts.1 i e less))) (rows_next older.now.table placed last next found))

-- ---- chunks

unused : (places : PlaceMap) (c s : ℕ) → has_chunk places c ≡ false → is_used places c s ≡ false
unused places c s none = by (chunk_with places.chunks c) none where
  by : (o : Option Chunk) → is_some (partition_in o) ≡ false → is_some (partition_in_slot o s) ≡ false
  by None e = refl
  by (Some x) e = absurd (false≢true (sym e))

over_chunk : (older newer : Bor VersionState) → Follows older.now.table newer.now → IsPlaced newer.now.table → (c : ℕ) → has_chunk newer.now.touches.places c ≡ false → IsSameChunk (Over older newer) c
over_chunk older newer follows placed c none = same_chunk older.now.table newer.now.table c placed follows.schema (λ s. follows.by_place c s (unused newer.now.touches.places c s none))

made_chunk : (newer : Bor VersionState) (c : ℕ) → first_in newer.now.table.rows c ≡ None → IsSameChunk (Made newer) c
made_chunk newer c none key is at = sym (ap (λ a. body_at newer.now.table key.kind a key.b) at ∙ no_chunk newer.now.table key.kind c key.b is none)

gone_chunk : (older : Bor VersionState) (c : ℕ) → first_in older.now.table.rows c ≡ None → IsSameChunk (Gone older) c
gone_chunk older c none key is at = ap (λ a. body_at older.now.table key.kind a key.b) at ∙ no_chunk older.now.table key.kind c key.b is none

pub chunk_over : (turn : Turn) (older newer : Bor VersionState) → turn ≡ Over older newer → IsTurn turn → IsPlaced newer.now.table → (last : ℕ) (next : Option ℕ) → IsNextUsed newer.now.touches.places last next → IsNextChunk turn last next
chunk_over turn older newer is follows placed last next found =
    let P : Turn → Type 0 = λ t. IsTurn t in
    let Q : Turn → Type 0 = λ t. IsNextChunk t last next in
    let now : Follows older.now.table newer.now = subst P is follows in
    let places = newer.now.touches.places in
    subst Q (sym is) (match_more next
    ((d : ℕ) → last < d → has_chunk places d ≡ false) ((d : ℕ) → last < d → IsSameChunk (Over older newer) d)
    (λ c. (last < c) × (has_chunk places c ≡ true) × ((d : ℕ) → last < d → d < c → has_chunk places d ≡ false))
    (λ c. (last < c) × ((d : ℕ) → last < d → d < c → IsSameChunk (Over older newer) d))
    (λ none d less. over_chunk older newer now placed d (none d less))
    (λ c parts. (parts.0, λ d less under. over_chunk older newer now placed d (parts.2 d less under))) found)

abbrev IsNextOf : List PlacedRow → ℕ → Option ℕ → Type 0
IsNextOf rows last next = MatchOption next
    ((d : ℕ) → last < d → first_in rows d ≡ None)
    (λ c. (last < c) × (is_some (first_in rows c) ≡ true) × ((d : ℕ) → last < d → d < c → first_in rows d ≡ None))

pub chunk_made : (turn : Turn) (newer : Bor VersionState) → turn ≡ Made newer → (last : ℕ) (next : Option ℕ) → IsNextOf newer.now.table.rows last next → IsNextChunk turn last next
chunk_made turn newer is last next found =
    let Q : Turn → Type 0 = λ t. IsNextChunk t last next in
    let rows = newer.now.table.rows in
    subst Q (sym is) (match_more next
    ((d : ℕ) → last < d → first_in rows d ≡ None) ((d : ℕ) → last < d → IsSameChunk (Made newer) d)
    (λ c. (last < c) × (is_some (first_in rows c) ≡ true) × ((d : ℕ) → last < d → d < c → first_in rows d ≡ None))
    (λ c. (last < c) × ((d : ℕ) → last < d → d < c → IsSameChunk (Made newer) d))
    (λ none d less. made_chunk newer d (none d less)) (λ c parts. (parts.0, λ d less under. made_chunk newer d (parts.2 d less under))) found)

pub chunk_gone : (turn : Turn) (older : Bor VersionState) → turn ≡ Gone older → (last : ℕ) (next : Option ℕ) → IsNextOf older.now.table.rows last next → IsNextChunk turn last next
chunk_gone turn older is last next found =
    let Q : Turn → Type 0 = λ t. IsNextChunk t last next in
    let rows = older.now.table.rows in
    subst Q (sym is) (match_more next
    ((d : ℕ) → last < d → first_in rows d ≡ None) ((d : ℕ) → last < d → IsSameChunk (Gone older) d)
    (λ c. (last < c) × (is_some (first_in rows c) ≡ true) × ((d : ℕ) → last < d → d < c → first_in rows d ≡ None))
    (λ c. (last < c) × ((d : ℕ) → last < d → d < c → IsSameChunk (Gone older) d))
    (λ none d less. gone_chunk older d (none d less)) (λ c parts. (parts.0, λ d less under. gone_chunk older d (parts.2 d less under))) found)
