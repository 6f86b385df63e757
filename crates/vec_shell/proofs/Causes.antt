-- What the status of a run is caused by.
use Rattle.std.proofs.Common.{◌≡◌, ℕ, Bool, true, false, if◌then◌else◌, List, refl, sym, ◌∙◌, arith}
use Rattle.std.specs.List.{list_any}
use Rattle.row_model.specs.declared.state.State.{State}
use Rattle.row_model.specs.declared.request.Request.TheVariants.{OpenSession}
use Rattle.row_model.specs.declared.request.Reply.{Reply}
use Rattle.row_model.specs.declared.request.Reply.TheVariants.{Session}
use Rattle.row_model.specs.Machine.{first_state, no_tables}
use Rattle.row_model.specs.Step.{answer_of}
use Rattle.row_model.specs.Shelled.{AnswersAll}
use Rattle.vec_shell.specs.declared.shell.Ending.{Ending}
use Rattle.vec_shell.specs.declared.shell.Ending.TheVariants.{Whole, ReadFault, WriteFault}
use Rattle.vec_shell.specs.ShellTexts.{Reads}
use Rattle.vec_shell.specs.Runs.{StreamChange, IsRun, status_at}
use Rattle.vec_shell.specs.Outcome.{IsShellRun, IsWholeRun, NoneRefused, OnlyStarved, SomeRefused}
use Rattle.vec_shell.specs.Statuses.{is_refused, is_faulted, is_starved}

-- a run of the session that was opened is a run of the shell
pub shell_run : (session : ℕ) (start last : State) (change : StreamChange) (status : ℕ) → answer_of (first_state no_tables) OpenSession ≡ (Session session, start) →
    IsRun (AnswersAll Reads session start) last change status → IsShellRun last change status
shell_run session start last change status opened ran = record {
  ending = ran.ending;
  bytes = ran.bytes;
  texts = ran.texts;
  replies = ran.replies;
  out = ran.out;
  read = ran.read;
  count = ran.count;
  to_end = ran.to_end;
  run = (session, start, opened, ran.run);
  ended = ran.ended;
  written = ran.written;
  gives = ran.gives;
}

-- ---- what a status says of the ending and the replies

-- the status that the kinds of refusals give
abbrev status_by : Bool → Bool → Bool → ℕ
status_by refused faulted starved = if refused then 2 else if faulted then 5 else if starved then 7 else 0

whole_2 : (a b c : Bool) → status_by a b c ≡ 2 → a ≡ true
whole_2 true b c e = refl
whole_2 false true c e = absurd (omega (arith, e))
whole_2 false false true e = absurd (omega (arith, e))
whole_2 false false false e = absurd (omega (arith, e))

whole_0 : (a b c : Bool) → status_by a b c ≡ 0 → (a ≡ false) × (b ≡ false) × (c ≡ false)
whole_0 true b c e = absurd (omega (arith, e))
whole_0 false true c e = absurd (omega (arith, e))
whole_0 false false true e = absurd (omega (arith, e))
whole_0 false false false e = (refl, refl, refl)

whole_7 : (a b c : Bool) → status_by a b c ≡ 7 → (a ≡ false) × (b ≡ false) × (c ≡ true)
whole_7 true b c e = absurd (omega (arith, e))
whole_7 false true c e = absurd (omega (arith, e))
whole_7 false false true e = (refl, refl, refl)
whole_7 false false false e = absurd (omega (arith, e))

refused_by : (ending : Ending) (replies : List Reply) → status_at ending replies ≡ 2 → (ending ≡ Whole) × SomeRefused replies
refused_by Whole replies e = (refl, whole_2 (list_any is_refused replies) (list_any is_faulted replies) (list_any is_starved replies) e)
refused_by ReadFault replies e = absurd (omega (arith, e))
refused_by WriteFault replies e = absurd (omega (arith, e))

none_by : (ending : Ending) (replies : List Reply) → status_at ending replies ≡ 0 → (ending ≡ Whole) × NoneRefused replies
none_by Whole replies e = (refl, whole_0 (list_any is_refused replies) (list_any is_faulted replies) (list_any is_starved replies) e)
none_by ReadFault replies e = absurd (omega (arith, e))
none_by WriteFault replies e = absurd (omega (arith, e))

starved_by : (ending : Ending) (replies : List Reply) → status_at ending replies ≡ 7 → (ending ≡ Whole) × OnlyStarved replies
starved_by Whole replies e = (refl, whole_7 (list_any is_refused replies) (list_any is_faulted replies) (list_any is_starved replies) e)
starved_by ReadFault replies e = absurd (omega (arith, e))
starved_by WriteFault replies e = absurd (omega (arith, e))

pub some_refused : (last : State) (change : StreamChange) (status : ℕ) → IsShellRun last change status → status ≡ 2 → IsWholeRun SomeRefused change status
some_refused last change status ran two = let cause = refused_by ran.ending ran.replies (sym ran.gives ∙ two) in (last, ran, cause.0, cause.1)

pub none_refused : (last : State) (change : StreamChange) (status : ℕ) → IsShellRun last change status → status ≡ 0 → IsWholeRun NoneRefused change status
none_refused last change status ran zero_is = let cause = none_by ran.ending ran.replies (sym ran.gives ∙ zero_is) in (last, ran, cause.0, cause.1)

pub only_starved : (last : State) (change : StreamChange) (status : ℕ) → IsShellRun last change status → status ≡ 7 → IsWholeRun OnlyStarved change status
only_starved last change status ran seven = let cause = starved_by ran.ending ran.replies (sym ran.gives ∙ seven) in (last, ran, cause.0, cause.1)
