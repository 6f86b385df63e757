-- From a read to the next, and to the end of a run.
use Rattle.std.proofs.Common.{◌≡◌, ℕ, ◌+◌, ◌≤◌, Bool, true, false, if◌then◌else◌, List, [], ◌∷◌, ◌++◌, length, take, refl, sym, ap, ◌∙◌, subst, arith, append_assoc, None, Some, length-append}
use Rattle.std.proofs.lemmas.List.{append-nil, length-take}
use Rattle.std.specs.List.{list_any}
use Rattle.std.specs.declared.option.Option.{Option}
use Rattle.vec_base.specs.Streams.{Rose, Loses, NoneLeft}
use Rattle.vec_base.proofs.StreamLaws.{loses-append}
use Rattle.row_model.specs.declared.state.State.{State}
use Rattle.row_model.specs.Shelled.{AnswersAll}
use Rattle.vec_shell.specs.declared.cutter.Cutter.{Cutter}
use Rattle.vec_shell.specs.declared.tally.Tally.{Tally}
use Rattle.vec_shell.specs.declared.shell.Ending.{Ending}
use Rattle.vec_shell.specs.declared.shell.Ending.TheVariants.{Whole, ReadFault, WriteFault}
use Rattle.vec_shell.specs.ShellTexts.{Reads}
use Rattle.vec_shell.specs.Runs.{IsRun, StreamChange}
use Rattle.vec_shell.specs.Lines.{lines_of}
use Rattle.vec_shell.specs.inner.Cutting.{CutterHolds}
use Rattle.vec_shell.specs.inner.Tallies.{Counts}
use Rattle.vec_shell.specs.Pieces.{texts_of, ended_of, rest_of, pieces_of}
use Rattle.vec_shell.specs.inner.Progress.{Moment, moment, Progress, AnswersPiece, TakesBytes}
use Rattle.vec_shell.specs.inner.LoopRuns.{LoopOutcome, StatusOf}
use Rattle.vec_shell.specs.Statuses.{is_refused, is_faulted, is_starved}
use Rattle.vec_shell.proofs.PieceLaws.{texts-append}
use Rattle.vec_shell.proofs.ProgressLaws.{takes_more}
use Rattle.vec_shell.proofs.SentLaws.{sent_nothing}

-- so much was read and taken
pub record Reading (session : ℕ) (going : Bool) (left left' : Option (List ℕ)) (given given' : ℕ) (old new : Moment) : Type 0 where
  pub bytes : List ℕ
  pub read : Loses left bytes left'
  pub count : given' ≡ given + length bytes
  pub takes : TakesBytes session bytes going old new

pub reading_more : (session : ℕ) (going : Bool) (left left' left'' : Option (List ℕ)) (given given' given'' : ℕ) (a b c : Moment) (room : List ℕ) (n : ℕ) →
    Reading session true left left' given given' a b → n ≤ length room → given'' ≡ given' + n → Loses left' (take n room) left'' → TakesBytes session (take n room) going b c →
    Reading session going left left'' given given'' a c
reading_more session going left left' left'' given given' given'' a b c room n so_far fits counted read takes = record {
  bytes = so_far.bytes ++ take n room;
  read = loses-append left left' left'' so_far.bytes (take n room) so_far.read read;
  count = omega (arith, so_far.count, length-append so_far.bytes (take n room), length-take n room);
  takes = takes_more session going so_far.bytes (take n room) a b c so_far.takes takes;
}

none_after : (a b : Option (List ℕ)) → Loses a [] b → NoneLeft a → NoneLeft b
none_after None None l n = tt
none_after None (Some y) l n = elim l [ ]
none_after (Some x) None l n = elim l [ ]
none_after (Some x) (Some y) l n = sym l ∙ n

read_no_more : (a b c : Option (List ℕ)) (bytes : List ℕ) → Loses a bytes b → Loses b [] c → Loses a bytes c
read_no_more a b c bytes l m = subst (λ (xs : List ℕ). Loses a xs c) (append-nil bytes) (loses-append a b c bytes [] l m)

whole_texts : (bytes : List ℕ) → texts_of (ended_of bytes) ++ texts_of (rest_of bytes ∷ []) ≡ texts_of (pieces_of bytes)
whole_texts bytes = sym (texts-append (ended_of bytes) (rest_of bytes ∷ []))

pub outcome_whole : (session : ℕ) (left left' left'' : Option (List ℕ)) (given given' given'' : ℕ) (a b c : Moment) →
    Reading session true left left' given given' a b → given'' ≡ given' → Loses left' [] left'' × NoneLeft left' → AnswersPiece session true b c →
    LoopOutcome session Whole left left'' given given'' a c
outcome_whole session left left' left'' given given' given'' a b c so_far same end answers = record {
  bytes = so_far.bytes;
  read = read_no_more left left' left'' so_far.bytes so_far.read end.0;
  count = same ∙ so_far.count;
  to_end = none_after left' left'' end.0 end.1;
  progress = λ start begun.
      subst (λ (ts : List (List ℕ)). Progress session start ts [] c) (whole_texts so_far.bytes)
      (answers start (texts_of (ended_of so_far.bytes)) (rest_of so_far.bytes) (so_far.takes start [] [] begun));
}

pub outcome_cut_last : (session : ℕ) (left left' left'' : Option (List ℕ)) (given given' given'' : ℕ) (a b c : Moment) →
    Reading session true left left' given given' a b → given'' ≡ given' → Loses left' [] left'' × NoneLeft left' → AnswersPiece session false b c →
    LoopOutcome session WriteFault left left'' given given'' a c
outcome_cut_last session left left' left'' given given' given'' a b c so_far same end answers = record {
  bytes = so_far.bytes;
  read = read_no_more left left' left'' so_far.bytes so_far.read end.0;
  count = same ∙ so_far.count;
  to_end = tt;
  progress = λ start begun. (
    texts_of (ended_of so_far.bytes) ++ texts_of (rest_of so_far.bytes ∷ []),
    ([], sym (whole_texts so_far.bytes) ∙ sym (append-nil _)),
    answers start (texts_of (ended_of so_far.bytes)) (rest_of so_far.bytes) (so_far.takes start [] [] begun),
  );
}

pub outcome_cut : (session : ℕ) (left left' : Option (List ℕ)) (given given' : ℕ) (a b : Moment) → Reading session false left left' given given' a b → LoopOutcome session WriteFault left left' given given' a b
outcome_cut session left left' given given' a b so_far = record {
  bytes = so_far.bytes;
  read = so_far.read;
  count = so_far.count;
  to_end = tt;
  progress = λ start begun.
      let stopped = so_far.takes start [] [] begun in (
        stopped.0,
        (
          stopped.1.0 ++ texts_of (rest_of so_far.bytes ∷ []),
          sym (whole_texts so_far.bytes) ∙ ap (λ ts. ts ++ texts_of (rest_of so_far.bytes ∷ [])) stopped.1.1 ∙ append_assoc stopped.0 stopped.1.0 _,
        ),
        stopped.2,
      );
}

pub outcome_fault : (session : ℕ) (left left' left'' : Option (List ℕ)) (given given' given'' : ℕ) (a b : Moment) →
    Reading session true left left' given given' a b → given'' ≡ given' → Loses left' [] left'' → LoopOutcome session ReadFault left left'' given given'' a b
outcome_fault session left left' left'' given given' given'' a b so_far same end = record {
  bytes = so_far.bytes;
  read = read_no_more left left' left'' so_far.bytes so_far.read end;
  count = same ∙ so_far.count;
  to_end = tt;
  progress = λ start begun. so_far.takes start [] [] begun;
}

-- a run that has not begun
pub begun : (session : ℕ) (start : State) (base : Option (List ℕ)) (faults : ℕ) (cutter : Cutter) (tally : Tally) → CutterHolds cutter [] → Counts tally [] →
    Progress session (moment start cutter tally base faults) [] [] (moment start cutter tally base faults)
begun session start base faults cutter tally holds counts =
    record { replies = []; run = refl; sent = sent_nothing base faults; holds = holds; counts = counts }

-- what a run did of which the loop tells
abbrev change : Option (List ℕ) → Option (List ℕ) → ℕ → ℕ → Moment → Moment → StreamChange
change left left' given given' old new = record { before = record { left = left; given = given; taken = old.taken }; after = record { left = left'; given = given'; taken = new.taken } }

pub ran : (session : ℕ) (ending : Ending) (left left' : Option (List ℕ)) (given given' status : ℕ) (old new : Moment) →
    LoopOutcome session ending left left' given given' old new → Progress session old [] [] old →
    StatusOf ending new.tally status →
    IsRun (AnswersAll Reads session old.state) new.state (change left left' given given' old new) status
ran session Whole left left' given given' status old new outcome start tells =
    let end = outcome.progress old start in
    record {
      ending = Whole;
      bytes = outcome.bytes;
      texts = texts_of (pieces_of outcome.bytes);
      replies = end.replies;
      out = lines_of end.replies;
      read = outcome.read;
      count = outcome.count;
      to_end = outcome.to_end;
      run = end.run;
      ended = (refl, refl);
      written = end.sent.written;
      gives = tells end.replies end.counts;
    }
ran session ReadFault left left' given given' status old new outcome start tells =
    let end = outcome.progress old start in
    record {
      ending = ReadFault;
      bytes = outcome.bytes;
      texts = texts_of (ended_of outcome.bytes);
      replies = end.replies;
      out = lines_of end.replies;
      read = outcome.read;
      count = outcome.count;
      to_end = tt;
      run = end.run;
      ended = (refl, refl);
      written = end.sent.written;
      gives = tells;
    }
ran session WriteFault left left' given given' status old new outcome start tells =
    let end = outcome.progress old start in
    record {
      ending = WriteFault;
      bytes = outcome.bytes;
      texts = end.0;
      replies = end.2.replies;
      out = end.2.out;
      read = outcome.read;
      count = outcome.count;
      to_end = tt;
      run = end.2.run;
      ended = (end.1, end.2.broken);
      written = end.2.written;
      gives = tells;
    }

-- no run that came to its end has the status of a fault
status_whole : (a b c : Bool) → (n : ℕ) → (if a then 2 else if b then 5 else if c then 7 else 0) ≡ n → (n ≡ 3 → ⊥) × (n ≡ 4 → ⊥)
status_whole true b c n e = (λ h. omega (arith, e, h), λ h. omega (arith, e, h))
status_whole false true c n e = (λ h. omega (arith, e, h), λ h. omega (arith, e, h))
status_whole false false true n e = (λ h. omega (arith, e, h), λ h. omega (arith, e, h))
status_whole false false false n e = (λ h. omega (arith, e, h), λ h. omega (arith, e, h))

-- a read fault and a write fault have their causes
pub read_rose : (session : ℕ) (ending : Ending) (left left' : Option (List ℕ)) (given given' status : ℕ) (old new : Moment) (R : Type 0) →
    LoopOutcome session ending left left' given given' old new → Progress session old [] [] old → StatusOf ending new.tally status →
    (ending ≡ ReadFault → R) → status ≡ 3 → R
read_rose session Whole left left' given given' status old new R outcome start tells cause three =
    let end = outcome.progress old start in
    absurd ((status_whole (list_any is_refused end.replies) (list_any is_faulted end.replies) (list_any is_starved end.replies) status (sym (tells end.replies end.counts))).0 three)
read_rose session ReadFault left left' given given' status old new R outcome start tells cause three = cause refl
read_rose session WriteFault left left' given given' status old new R outcome start tells cause three = absurd (omega arith)

pub write_rose : (session : ℕ) (ending : Ending) (left left' : Option (List ℕ)) (given given' status : ℕ) (old new : Moment) →
    LoopOutcome session ending left left' given given' old new → Progress session old [] [] old → StatusOf ending new.tally status →
    status ≡ 4 → Rose old.faults new.faults
write_rose session Whole left left' given given' status old new outcome start tells four =
    let end = outcome.progress old start in
    absurd ((status_whole (list_any is_refused end.replies) (list_any is_faulted end.replies) (list_any is_starved end.replies) status (sym (tells end.replies end.counts))).1 four)
write_rose session ReadFault left left' given given' status old new outcome start tells four = absurd (omega arith)
write_rose session WriteFault left left' given given' status old new outcome start tells four = (outcome.progress old start).2.rose
