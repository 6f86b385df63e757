-- The texts of refusals.
use Rattle.std.specs.Prelude.{ℕ, ℤ, List, ◌∷◌, ◌++◌, get_or, codes}
use Rattle.std.specs.Fmt.{decimal, signed_decimal}
use Rattle.vec_base.specs.Words.{unsupported_words}
use Rattle.vec_text.specs.declared.refusal.TheConstants.{NO_WORD}
use Rattle.vec_base.specs.declared.refusal.Refusal.{Refusal}
use Rattle.vec_base.specs.declared.refusal.Refusal.TheVariants.{Syntax, Unsupported, Parameter, TxnState, NoTable, TableExists, BadSchema, NoColumn, WrongType, VectorShape, NotNull, FixedColumn, KRange, KnnForm, Busy, OldSnapshot, Duplicate, RowidsSpent, Full, NoSavepoint, NoSession, NoCursor, TooManyRows, StoreFault, WantOfMemory}

-- the word of SQL with a number; number 0, and a number without a word, is a form
abbrev pub unsupported_word : ℕ → List ℕ
unsupported_word number = get_or (NO_WORD.now ∷ unsupported_words) number NO_WORD.now

-- words and a number behind them
abbrev pub counted : List ℕ → ℕ → List ℕ
counted words number = words ++ decimal number

-- words and a signed number behind them
abbrev pub signed_counted : List ℕ → ℤ → List ℕ
signed_counted words number = words ++ signed_decimal number

abbrev pub refusal_text : Refusal → List ℕ
refusal_text (Syntax place) = counted (codes "syntax at ") place
refusal_text (Unsupported word) = codes "unsupported " ++ unsupported_word word
refusal_text (Parameter index) = counted (codes "parameter ") index
refusal_text TxnState = codes "transaction state"
refusal_text NoTable = codes "no table"
refusal_text TableExists = codes "table exists"
refusal_text (BadSchema rule) = counted (codes "schema rule ") rule
refusal_text (NoColumn index) = counted (codes "no column at ") index
refusal_text (WrongType column) = counted (codes "type of column ") column
refusal_text (VectorShape column wanted got) =
    counted (codes "vector column ") column ++ counted (codes " wants ") wanted ++ counted (codes " got ") got
refusal_text (NotNull column) = counted (codes "null in column ") column
refusal_text (FixedColumn column) = counted (codes "fixed column ") column
refusal_text (KRange k) = signed_counted (codes "k out of range ") k
refusal_text (KnnForm rule) = counted (codes "nearest rule ") rule
refusal_text (Busy session) = counted (codes "busy session ") session
refusal_text (OldSnapshot at latest) = counted (codes "old snapshot ") at ++ counted (codes " latest ") latest
refusal_text (Duplicate rowid) = signed_counted (codes "duplicate rowid ") rowid
refusal_text RowidsSpent = codes "rowids spent"
refusal_text (Full limit count) = counted (codes "full limit ") limit ++ counted (codes " count ") count
refusal_text NoSavepoint = codes "no savepoint"
refusal_text NoSession = codes "no session"
refusal_text NoCursor = codes "no cursor"
refusal_text (TooManyRows count) = counted (codes "too many rows ") count
refusal_text StoreFault = codes "store fault"
refusal_text WantOfMemory = codes "want of memory"
