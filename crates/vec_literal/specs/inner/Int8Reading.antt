-- Reading an int8 literal byte by byte. Only clauses of private functions speak of it: proofs/Int8Sound.antt and
-- proofs/Int8Complete.antt show that it reads just the texts in the form, and proofs/Int8Laws.antt that it answers with
-- just the vectors that SpellsInt8 allows and the faults that IsInt8Fault allows.
use Rattle.std.specs.Prelude.{◌≡◌, MatchBool, ℕ, suc, ◌+◌, ◌-◌, ◌*◌, ◌%◌, Bool, true, false, if◌then◌else◌, ◌==◌, ◌<◌, ◌≤◌, nat_lt, nat_le, take, List, [], ◌∷◌, ◌++◌, length, Option, Some, None, Result, Ok, Err}
use Rattle.std.specs.Option.{option_map, option_and_then}
use Rattle.std.specs.Char.{is_ascii_digit}
use Rattle.vec_literal.specs.Int8.{is_space, opening, closing, greatest}
use Rattle.vec_literal.specs.declared.int8.LitFault.{LitFault}
use Rattle.vec_literal.specs.declared.int8.LitFault.TheVariants.{Place, Range}
use Rattle.vec_literal.specs.declared.int8.TheConstants.{BYTES, TOO_LARGE}
use Rattle.vec_literal.specs.declared.int8.Number.{Number}
use Rattle.vec_literal.specs.declared.int8.Stage.{Stage}
use Rattle.vec_literal.specs.declared.int8.Stage.TheVariants.{Start, Opened, Comma, Minus, Digits, Between, Closed}
use Rattle.vec_literal.specs.declared.int8.Reader.{Reader}

-- the byte of an element, or nothing where the number does not fit
abbrev pub byte_of : Number → Option ℕ
byte_of n =
    if n.negative
    then (if nat_le n.magnitude (suc greatest) then Some ((BYTES - n.magnitude) % BYTES) else None)
    else (if nat_le n.magnitude greatest then Some n.magnitude else None)

-- one digit more; from `TOO_LARGE` on a magnitude is that of no element and stays
abbrev pub more_digits : ℕ → ℕ → ℕ
more_digits m b = if nat_lt m TOO_LARGE then m * 10 + (b - 48) else m

-- a digit that begins a number; it may be a zero
abbrev pub first_digit : Bool → ℕ → Option Stage
first_digit negative b =
    if is_ascii_digit b then Some (Digits (record { negative = negative; magnitude = b - 48 })) else None

-- a digit after a digit; none may follow a leading zero
abbrev pub next_digit : Number → ℕ → Option Stage
next_digit n b =
    if n.magnitude == 0 then None else Some (Digits (record n { magnitude = more_digits n.magnitude b }))

-- a sign or a digit that begins a number
abbrev pub number_start : ℕ → Option Stage
number_start b = if b == 45 then Some Minus else first_digit false b

-- a mark that ends an element
abbrev pub after_element : ℕ → Option Stage
after_element b = if b == 44 then Some Comma else if b == closing then Some Closed else None

-- white space: it ends a number, and may not follow its sign
abbrev pub after_space : Stage → Option Stage
after_space Start = Some Start
after_space Opened = Some Opened
after_space Comma = Some Comma
after_space Minus = None
after_space (Digits n) = Some Between
after_space Between = Some Between
after_space Closed = Some Closed

-- any other byte
abbrev pub after_mark : Stage → ℕ → Option Stage
after_mark Start b = if b == opening then Some Opened else None
after_mark Opened b = if b == closing then Some Closed else number_start b
after_mark Comma b = number_start b
after_mark Minus b = first_digit true b
after_mark (Digits n) b = if is_ascii_digit b then next_digit n b else after_element b
after_mark Between b = after_element b
after_mark Closed b = None

-- the stage after a byte, or nothing where the byte does not fit the form
abbrev pub stage_after : Stage → ℕ → Option Stage
stage_after stage b = if is_space b then after_space stage else after_mark stage b

-- one element more: its byte, or its index where it does not fit
abbrev pub with_byte : Reader → Option ℕ → Reader
with_byte r (Some b) = record r { vector = r.vector ++ b ∷ [] }
with_byte r None = record r { misfit = Some (length r.vector) }

-- once an element does not fit, no other is kept
abbrev pub with_element : Reader → Number → Reader
with_element r n = elim r.misfit [ Some i ↦ r | None ↦ with_byte r (byte_of n) ]

-- a number ends where a byte that is no digit follows it
abbrev pub ended_in : Reader → Stage → Reader
ended_in r (Digits n) = with_element r n
ended_in r stage = r

-- what a byte ends
abbrev pub ended : Reader → ℕ → Reader
ended r b = if is_ascii_digit b then r else ended_in r r.stage

-- the reader after a byte, or nothing where the byte does not fit the form
abbrev pub read_byte : Reader → ℕ → Option Reader
read_byte r b = option_map (λ next. record (ended r b) { stage = next }) (stage_after r.stage b)

-- the byte is read, or it does not fit the form
abbrev pub ReadsByte : Reader → ℕ → Bool → Reader → Type 0
ReadsByte old b fits new = MatchBool fits (read_byte old b ≡ Some new) (read_byte old b ≡ None)

-- the reader after bytes
abbrev pub read_bytes : Reader → List ℕ → Option Reader
read_bytes r [] = Some r
read_bytes r (b ∷ bs) = option_and_then (λ next. read_bytes next bs) (read_byte r b)

-- the reader at a stage, with the bytes of the elements before it, which all fit
abbrev pub reader_at : Stage → List ℕ → Reader
reader_at stage vector = record { stage = stage; vector = vector; misfit = None }

-- the list is closed
abbrev pub is_closed : Stage → Bool
is_closed Closed = true
is_closed _ = false

-- the whole text is a literal of the vector
abbrev pub ReadsWhole : List ℕ → List ℕ → Type 0
ReadsWhole text vector = read_bytes (reader_at Start []) text ≡ Some (reader_at Closed vector)

-- an element may begin
abbrev pub is_due : Stage → Bool
is_due Opened = true
is_due Comma = true
is_due _ = false

-- the digits of a number of this sign may begin
abbrev pub takes : Bool → Stage → Bool
takes false Opened = true
takes false Comma = true
takes true Minus = true
takes _ _ = false

-- The number is spelled by the first bytes of the text, where its last digit may be followed by more. A reader at a stage
-- where one may begin can read it.
pub record ReadsNumber (text : List ℕ) (spelling : ℕ) (number : Number) : Type 0 where
  pub some : 0 < spelling
  pub inside : spelling ≤ length text
  pub reads : (stage : Stage) (vector : List ℕ) → is_due stage ≡ true → read_bytes (reader_at stage vector) (take spelling text) ≡ Some (reader_at (Digits number) vector)

-- The same of a number of this sign, whose digits stand from a place on: a reader that has read what stands before them, and
-- is at a stage where they may begin, can read them.
pub record ReadsDigits (negative : Bool) (text : List ℕ) (from upto : ℕ) (number : Number) : Type 0 where
  pub rising : from < upto
  pub inside : upto ≤ length text
  pub reads : (start : Reader) (stage : Stage) (vector : List ℕ) → takes negative stage ≡ true → read_bytes start (take from text) ≡ Some (reader_at stage vector) →
      read_bytes start (take upto text) ≡ Some (reader_at (Digits number) vector)

-- an element of that byte is spelled by the first bytes of the text, and the text goes on behind it
abbrev pub ReadsElement : List ℕ → ℕ → ℕ → Type 0
ReadsElement text spelling byte = (number : Number) × (byte_of number ≡ Some byte) × (spelling < length text) × ReadsNumber text spelling number

-- what a reader answers where the text, of this length, ends
abbrev pub outcome_of : Reader → ℕ → Result (List ℕ) LitFault
outcome_of r length =
    if is_closed r.stage then elim r.misfit [ Some i ↦ Err (Range i) | None ↦ Ok r.vector ] else Err (Place length)
