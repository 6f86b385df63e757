-- What a whole run of the shell does.
use Rattle.std.specs.Prelude.{◌≡◌, ℕ, ◌+◌, List, [], ◌∷◌, ◌++◌, length}
use Rattle.std.specs.declared.option.Option.{Option}
use Rattle.vec_base.specs.Streams.{Loses, Gains, NoneLeft}
use Rattle.row_model.specs.declared.request.Reply.{Reply}
use Rattle.row_model.specs.declared.state.State.{State}
use Rattle.vec_shell.specs.declared.shell.Ending.{Ending}
use Rattle.vec_shell.specs.declared.shell.Ending.TheVariants.{Whole, ReadFault, WriteFault}
use Rattle.vec_shell.specs.Lines.{lines, lines_of}
use Rattle.vec_shell.specs.Pieces.{pieces_of, ended_of, texts_of}
use Rattle.vec_shell.specs.Fronts.{IsFront, IsProperFront}
use Rattle.vec_shell.specs.Statuses.{status_of}

-- what a source and a sink tell at a moment: the bytes left, how many were given, and the bytes taken
pub record Streams : Type 0 where
  pub left : Option (List ℕ)
  pub given : ℕ
  pub taken : Option (List ℕ)

-- what they tell before a run and after it
pub record StreamChange : Type 0 where
  pub before : Streams
  pub after : Streams

-- the same of a source and a sink, of which these functions tell
abbrev pub change_of : {S O : Type 0} → (S → Option (List ℕ)) → (S → ℕ) → (O → Option (List ℕ)) → S → S → O → O → StreamChange
change_of left given taken source source' sink sink' = record {
  before = record { left = left source; given = given source; taken = taken sink };
  after = record { left = left source'; given = given source'; taken = taken sink' };
}

-- the lines of all replies but the last, and a proper front of those of the last
abbrev pub BrokenOff : List Reply → List ℕ → Type 0
BrokenOff replies out =
    (before : List Reply) × (last : Reply) × (front : List ℕ) ×
    (replies ≡ before ++ last ∷ []) × IsProperFront front (lines last) × (out ≡ lines_of before ++ front)

-- Which texts were answered, of the bytes that were given, and what was written: all texts, with whole lines; where a read
-- failed those that a `;` ended; where a write failed some of the first texts, with the lines of the last one cut off.
abbrev pub Ended : Ending → List ℕ → List (List ℕ) → List Reply → List ℕ → Type 0
Ended Whole bytes texts replies out = (texts ≡ texts_of (pieces_of bytes)) × (out ≡ lines_of replies)
Ended ReadFault bytes texts replies out = (texts ≡ texts_of (ended_of bytes)) × (out ≡ lines_of replies)
Ended WriteFault bytes texts replies out = IsFront texts (texts_of (pieces_of bytes)) × BrokenOff replies out

abbrev pub status_at : Ending → List Reply → ℕ
status_at Whole replies = status_of replies
status_at ReadFault replies = 3
status_at WriteFault replies = 4

-- where the run came to the source's end, nothing is left
abbrev pub LeavesNone : Ending → Option (List ℕ) → Type 0
LeavesNone Whole left = NoneLeft left
LeavesNone ReadFault left = Unit {0}
LeavesNone WriteFault left = Unit {0}

-- A run whose texts and replies lead to a last state: the bytes that the source gave, the texts that were answered, their
-- replies, what was written, and the status.
pub record IsRun (Run : List (List ℕ) → List Reply → State → Type 0) (last : State) (change : StreamChange) (status : ℕ) : Type 0 where
  pub ending : Ending
  pub bytes : List ℕ
  pub texts : List (List ℕ)
  pub replies : List Reply
  pub out : List ℕ
  pub read : Loses change.before.left bytes change.after.left
  pub count : change.after.given ≡ change.before.given + length bytes
  pub to_end : LeavesNone ending change.after.left
  pub run : Run texts replies last
  pub ended : Ended ending bytes texts replies out
  pub written : Gains change.before.taken out change.after.taken
  pub gives : status ≡ status_at ending replies
