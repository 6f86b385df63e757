-- What the bytes of a journal give: its batches, or the place where it is damaged.
use Rattle.std.specs.Prelude.{ℕ, zero, suc, ◌+◌, ◌==◌, ◌&&◌, nat_le, if◌then◌else◌, List, [], ◌∷◌, ◌++◌, length, take, drop, bytes_eq, Option, Some, None, Result, Ok, Err}
use Rattle.std.specs.FinMap.{empty}
use Rattle.std.specs.Int.{w64}
use Rattle.vec_base.specs.declared.shadow.Change.{Change}
use Rattle.shadow_records.specs.Batches.{applied}
use Rattle.shadow_records.specs.Keys.{Tables}
use Rattle.journal_format.specs.Fields.{◌>>=◌, number_at, changes_of}
use Rattle.journal_format.specs.Fitting.{all_apply}
use Rattle.journal_format.specs.Format.{header}

-- The changes of a body: it has this number, whole changes and nothing behind them, and the changes apply to the tables.
unfoldable pub batch_of : List ℕ → ℕ → Tables → Option (List Change)
batch_of body n tables = do
  number ← number_at w64 body
  changes ← changes_of number.1
  if number.0 == n && all_apply changes tables then Some changes else None

-- Behind an open gate: the changes of the batch, the length of its body, and the bytes from the next gate on. That gate is there.
unfoldable pub batch_at : List ℕ → ℕ → Tables → Option (List Change × (ℕ × List ℕ))
batch_at bytes n tables = do
  len ← number_at w64 bytes
  if nat_le (length len.1) len.0 then None else (batch_of (take len.0 len.1) n tables >>= λ changes. Some (changes, (len.0, drop len.0 len.1)))

-- these batches before the others
abbrev pub with_earlier : List (List Change) → Result (List (List Change)) ℕ → Result (List (List Change)) ℕ
with_earlier earlier (Ok batches) = Ok (earlier ++ batches)
with_earlier earlier (Err place) = Err place

-- damaged at the place where nothing was found
abbrev pub or_damaged : {A : Type 0} → ℕ → Option A → (A → Result (List (List Change)) ℕ) → Result (List (List Change)) ℕ
or_damaged place None f = Err place
or_damaged place (Some x) f = f x

-- The batches behind open gates up to the first closed gate. The bytes begin with a gate, which stands at this place of the file; the batch behind
-- it is to have the number n and to apply to the tables. The first number only bounds the recursion.
unfoldable pub batches_in : ℕ → ℕ → List ℕ → ℕ → Tables → Result (List (List Change)) ℕ
batches_in bound place [] n tables = Ok []
batches_in zero place (gate ∷ bytes) n tables = Ok []
batches_in (suc bound) place (gate ∷ bytes) n tables =
    if gate == 1
    then or_damaged place (batch_at bytes n tables) (λ found.
    with_earlier (found.0 ∷ []) (batches_in bound (place + 9 + found.1.0) found.1.1 (n + 1) (applied found.0 tables)))
    else Ok []

abbrev pub batches_from : ℕ → List ℕ → ℕ → Tables → Result (List (List Change)) ℕ
batches_from place bytes n tables = batches_in (length bytes) place bytes n tables

-- The batches of a journal: none in at most 17 bytes; else those behind open gates from place 16 on, if the header is there. Or where it is damaged.
unfoldable pub commits_of : List ℕ → Result (List (List Change)) ℕ
commits_of file =
    if nat_le (length file) 17 then Ok []
    else (if bytes_eq (take 16 file) header then batches_from 16 (drop 16 file) 1 empty else Err 0)

-- the tables after these batches, the first of them first
abbrev pub replayed : List (List Change) → Tables → Tables
replayed [] tables = tables
replayed (batch ∷ batches) tables = replayed batches (applied batch tables)

abbrev pub replay : Result (List (List Change)) ℕ → Result Tables ℕ
replay (Ok batches) = Ok (replayed batches empty)
replay (Err place) = Err place

-- the tables that a journal gives, or where it is damaged
abbrev pub tables_of : List ℕ → Result Tables ℕ
tables_of file = replay (commits_of file)

abbrev pub some_tables : Result Tables ℕ → Option Tables
some_tables (Ok tables) = Some tables
some_tables (Err place) = None

-- the tables that a journal gives, or none where it is damaged
abbrev pub shown : List ℕ → Option Tables
shown file = some_tables (tables_of file)
