-- How far a run of the shell has come.
use Rattle.std.specs.Prelude.{ℕ, Bool, true, MatchBool, List, [], ◌∷◌, ◌++◌}
use Rattle.std.specs.declared.option.Option.{Option}
use Rattle.vec_base.specs.Streams.{Rose, Gains}
use Rattle.row_model.specs.declared.request.Reply.{Reply}
use Rattle.row_model.specs.declared.state.State.{State}
use Rattle.row_model.specs.Shelled.{AnswersAll}
use Rattle.vec_shell.specs.declared.cutter.Cutter.{Cutter}
use Rattle.vec_shell.specs.declared.tally.Tally.{Tally}
use Rattle.vec_shell.specs.ShellTexts.{Reads}
use Rattle.vec_shell.specs.Runs.{BrokenOff}
use Rattle.vec_shell.specs.Lines.{lines_of}
use Rattle.vec_shell.specs.inner.Cutting.{CutterHolds}
use Rattle.vec_shell.specs.inner.Tallies.{Counts}
use Rattle.vec_shell.specs.Pieces.{texts_of, ended_from, rest_from}
use Rattle.vec_shell.specs.Fronts.{IsFront}
use Rattle.vec_shell.specs.inner.Sending.{Sent}

-- what the shell and its sink are at a moment
pub record Moment : Type 0 where
  pub state : State
  pub cutter : Cutter
  pub tally : Tally
  pub taken : Option (List ℕ)
  pub faults : ℕ

abbrev pub moment : State → Cutter → Tally → Option (List ℕ) → ℕ → Moment
moment state cutter tally taken faults = record { state = state; cutter = cutter; tally = tally; taken = taken; faults = faults }

-- From the first moment on these texts are answered in the session, and so much has been read of the next piece.
pub record Progress (session : ℕ) (start : Moment) (texts : List (List ℕ)) (piece : List ℕ) (now : Moment) : Type 0 where
  pub replies : List Reply
  pub run : AnswersAll Reads session start.state texts replies now.state
  pub sent : Sent start.taken start.faults (lines_of replies) true now.taken now.faults
  pub holds : CutterHolds now.cutter piece
  pub counts : Counts now.tally replies

-- The sink failed in the lines of the last of these texts.
pub record Stopped (session : ℕ) (start : Moment) (texts : List (List ℕ)) (now : Moment) : Type 0 where
  pub replies : List Reply
  pub run : AnswersAll Reads session start.state texts replies now.state
  pub out : List ℕ
  pub written : Gains start.taken out now.taken
  pub broken : BrokenOff replies out
  pub rose : Rose start.faults now.faults

-- The piece as it stands is answered, if it is a text.
abbrev pub AnswersPiece : ℕ → Bool → Moment → Moment → Type 0
AnswersPiece session going old new =
    (start : Moment) (texts : List (List ℕ)) (piece : List ℕ) →
    Progress session start texts piece old →
    MatchBool going
    (Progress session start (texts ++ texts_of (piece ∷ [])) [] new)
    (Stopped session start (texts ++ texts_of (piece ∷ [])) new)

-- The bytes are taken, and each text that they end is answered.
abbrev pub TakesBytes : ℕ → List ℕ → Bool → Moment → Moment → Type 0
TakesBytes session bytes going old new =
    (start : Moment) (texts : List (List ℕ)) (piece : List ℕ) →
    Progress session start texts piece old →
    MatchBool going
    (Progress session start (texts ++ texts_of (ended_from piece bytes)) (rest_from piece bytes) new)
    ((answered : List (List ℕ)) × IsFront answered (texts ++ texts_of (ended_from piece bytes)) × Stopped session start answered new)
