-- What the loop of the shell does, in the terms of its parts.
use Rattle.std.specs.Prelude.{◌≡◌, ℕ, ◌+◌, List, [], length}
use Rattle.std.specs.declared.option.Option.{Option}
use Rattle.vec_base.specs.Streams.{Loses}
use Rattle.row_model.specs.declared.request.Reply.{Reply}
use Rattle.vec_shell.specs.declared.shell.Ending.{Ending}
use Rattle.vec_shell.specs.declared.shell.Ending.TheVariants.{Whole, ReadFault, WriteFault}
use Rattle.vec_shell.specs.declared.tally.Tally.{Tally}
use Rattle.vec_shell.specs.Runs.{LeavesNone}
use Rattle.vec_shell.specs.inner.Tallies.{Counts}
use Rattle.vec_shell.specs.Pieces.{pieces_of, ended_of, rest_of, texts_of}
use Rattle.vec_shell.specs.inner.Progress.{Moment, Progress, Stopped}
use Rattle.vec_shell.specs.Fronts.{IsFront}
use Rattle.vec_shell.specs.Statuses.{status_of}

-- what holds at each ending, of a run that began with no piece begun
abbrev pub AtEnd : ℕ → Ending → Moment → List ℕ → Moment → Type 0
AtEnd session Whole start bytes now = Progress session start (texts_of (pieces_of bytes)) [] now
AtEnd session ReadFault start bytes now = Progress session start (texts_of (ended_of bytes)) (rest_of bytes) now
AtEnd session WriteFault start bytes now =
    (answered : List (List ℕ)) × IsFront answered (texts_of (pieces_of bytes)) × Stopped session start answered now

-- the bytes that the source gave, and what holds after them
pub record LoopOutcome (session : ℕ) (ending : Ending) (left left' : Option (List ℕ)) (given given' : ℕ) (old new : Moment) : Type 0 where
  pub bytes : List ℕ
  pub read : Loses left bytes left'
  pub count : given' ≡ given + length bytes
  pub to_end : LeavesNone ending left'
  pub progress : (start : Moment) → Progress session start [] [] old → AtEnd session ending start bytes new

-- the status that an ending and a tally give
abbrev pub StatusOf : Ending → Tally → ℕ → Type 0
StatusOf Whole tally status = (replies : List Reply) → Counts tally replies → status ≡ status_of replies
StatusOf ReadFault tally status = status ≡ 3
StatusOf WriteFault tally status = status ≡ 4
