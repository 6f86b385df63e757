-- A run goes on by a piece, and by bytes.
use Rattle.std.proofs.Common.{◌≡◌, ◌≢◌, ℕ, ◌+◌, ◌<◌, ◌≤◌, ◌-◌, length, length-drop, take, drop, get_or, Bool, true, false, MatchBool, List, [], ◌∷◌, ◌++◌, if◌then◌else◌, refl, sym, ap, ◌∙◌, subst, arith, append_assoc}
use Rattle.std.proofs.Math.Seq.{take-add}
use Rattle.std.proofs.lemmas.List.{append-nil, length-take, take_more, take-append-drop}
use Rattle.std.proofs.lemmas.Grind.{flat_map-append}
use Rattle.vec_base.proofs.StreamLaws.{gains-append}
use Rattle.row_model.specs.declared.request.Reply.{Reply}
use Rattle.row_model.specs.Shelled.{Answers, AnswersAll}
use Rattle.row_model.proofs.RunLaws.{answers_all-push}
use Rattle.vec_shell.specs.declared.cutter.Cutter.{Cutter}
use Rattle.vec_shell.specs.ShellTexts.{Reads}
use Rattle.vec_shell.specs.Lines.{lines, lines_of}
use Rattle.vec_shell.specs.inner.Cutting.{CutterHolds, GoesOn}
use Rattle.vec_shell.specs.inner.Tallies.{Counts}
use Rattle.vec_shell.specs.Pieces.{trim, add_text, texts_of, ends, ended_from, rest_from}
use Rattle.vec_shell.specs.inner.Progress.{Moment, Progress, Stopped, AnswersPiece, TakesBytes}
use Rattle.vec_shell.specs.inner.Sending.{Sent}
use Rattle.vec_shell.proofs.PieceLaws.{ended-append, rest-append, texts-append}
use Rattle.vec_shell.proofs.SentLaws.{sent-append}

one_text : (t : List ℕ) → t ≢ [] → add_text t [] ≡ t ∷ []
one_text [] ne = absurd (ne refl)
one_text (x ∷ xs) ne = refl

lines_of-push : (replies : List Reply) (reply : Reply) → lines_of (replies ++ reply ∷ []) ≡ lines_of replies ++ lines reply
lines_of-push replies reply = flat_map-append lines replies (reply ∷ []) ∙ ap (λ u. lines_of replies ++ u) (append-nil (lines reply))

pub piece_blank : (session : ℕ) (start : Moment) (texts : List (List ℕ)) (piece : List ℕ) (m : Moment) (c : Cutter) → Progress session start texts piece m → trim piece ≡ [] → CutterHolds c [] → Progress session start (texts ++ texts_of (piece ∷ [])) [] (record m { cutter = c })
piece_blank session start texts piece m c so_far none begun = record {
  replies = so_far.replies;
  run = subst (λ (ts : List (List ℕ)). AnswersAll Reads session start.state ts so_far.replies m.state) (sym (ap (λ t. texts ++ add_text t []) none ∙ append-nil texts)) so_far.run;
  sent = so_far.sent;
  holds = begun;
  counts = so_far.counts;
}

-- the lines of a further reply
sent_reply : (session : ℕ) (going : Bool) (start : Moment) (texts : List (List ℕ)) (replies : List Reply) (reply : Reply) (old new : Moment) →
    Sent start.taken start.faults (lines_of replies) true old.taken old.faults → Sent old.taken old.faults (lines reply) going new.taken new.faults →
    AnswersAll Reads session start.state texts (replies ++ reply ∷ []) new.state → CutterHolds new.cutter [] → Counts new.tally (replies ++ reply ∷ []) →
    MatchBool going (Progress session start texts [] new) (Stopped session start texts new)
sent_reply session true start texts replies reply old new before more run begun counts = record {
  replies = replies ++ reply ∷ [];
  run = run;
  sent = subst (λ (xs : List ℕ). Sent start.taken start.faults xs true new.taken new.faults) (sym (lines_of-push replies reply))
      (sent-append start.taken old.taken new.taken start.faults old.faults new.faults (lines_of replies) (lines reply) before more.later more.written);
  holds = begun;
  counts = counts;
}
sent_reply session false start texts replies reply old new before more run begun counts = record {
  replies = replies ++ reply ∷ [];
  run = run;
  out = lines_of replies ++ more.written.0.0;
  written = gains-append start.taken old.taken new.taken (lines_of replies) more.written.0.0 before.written more.written.0.2;
  broken = (replies, reply, more.written.0.0, refl, more.written.0.1, refl);
  rose = omega (arith, before.later, more.written.1);
}

pub piece_answered : (session : ℕ) (going : Bool) (start : Moment) (texts : List (List ℕ)) (piece : List ℕ) (reply : Reply) (old new : Moment) →
    Progress session start texts piece old → trim piece ≢ [] → Answers Reads session old.state (trim piece) reply new.state →
    ((rs : List Reply) → Counts old.tally rs → Counts new.tally (rs ++ reply ∷ [])) → CutterHolds new.cutter [] →
    Sent old.taken old.faults (lines reply) going new.taken new.faults →
    MatchBool going (Progress session start (texts ++ texts_of (piece ∷ [])) [] new) (Stopped session start (texts ++ texts_of (piece ∷ [])) new)
piece_answered session going start texts piece reply old new so_far some answers counts begun sent =
    sent_reply session going start (texts ++ texts_of (piece ∷ [])) so_far.replies reply old new so_far.sent sent
    (subst (λ (ts : List (List ℕ)). AnswersAll Reads session start.state (texts ++ ts) (so_far.replies ++ reply ∷ []) new.state) (sym (one_text (trim piece) some))
    (answers_all-push Reads session start.state old.state new.state texts so_far.replies (trim piece) reply so_far.run answers))
    begun (counts so_far.replies so_far.counts)

pub takes_none : (session : ℕ) (m : Moment) → TakesBytes session [] true m m
takes_none session m start texts piece so_far =
    subst (λ (ts : List (List ℕ)). Progress session start ts piece m) (sym (append-nil texts)) so_far

-- bytes that end no piece
pub run_added : (session : ℕ) (old : Moment) (c : Cutter) (bytes : List ℕ) → ((piece : List ℕ) → CutterHolds old.cutter piece → GoesOn piece bytes) →
    ((piece : List ℕ) → CutterHolds old.cutter piece → CutterHolds c (piece ++ bytes)) → TakesBytes session bytes true old (record old { cutter = c })
run_added session old c bytes goes_on holds start texts piece so_far =
    let on = goes_on piece so_far.holds in
    subst (λ (ps : List (List ℕ)). Progress session start (texts ++ texts_of ps) (rest_from piece bytes) (record old { cutter = c })) (sym on.0)
    (subst (λ (p : List ℕ). Progress session start (texts ++ []) p (record old { cutter = c })) (sym on.1)
    (record {
      replies = so_far.replies;
      run = subst (λ (ts : List (List ℕ)). AnswersAll Reads session start.state ts so_far.replies old.state) (sym (append-nil texts)) so_far.run;
      sent = so_far.sent;
      holds = holds piece so_far.holds;
      counts = so_far.counts;
    }))

-- a byte that does not end the piece
pub byte_added : (session : ℕ) (old : Moment) (c : Cutter) (b : ℕ) → ((piece : List ℕ) → CutterHolds old.cutter piece → ends piece b ≡ false) →
    ((piece : List ℕ) → CutterHolds old.cutter piece → CutterHolds c (piece ++ b ∷ [])) → TakesBytes session (b ∷ []) true old (record old { cutter = c })
byte_added session old c b goes_on holds =
    run_added session old c (b ∷ []) (λ piece h. (ap (λ (e : Bool). if e then piece ∷ [] else []) (goes_on piece h), ap (λ (e : Bool). if e then [] else piece ++ b ∷ []) (goes_on piece h))) holds

pub byte_ends : (session : ℕ) (going : Bool) (old new : Moment) (b : ℕ) → ((piece : List ℕ) → CutterHolds old.cutter piece → ends piece b ≡ true) → AnswersPiece session going old new → TakesBytes session (b ∷ []) going old new
byte_ends session true old new b ended answers start texts piece so_far =
    subst (λ (e : Bool). Progress session start (texts ++ texts_of (if e then piece ∷ [] else [])) (if e then [] else piece ++ b ∷ []) new) (sym (ended piece so_far.holds))
    (answers start texts piece so_far)
byte_ends session false old new b ended answers start texts piece so_far = (
  texts ++ texts_of (piece ∷ []),
  ([], ap (λ e. texts ++ texts_of (if e then piece ∷ [] else [])) (ended piece so_far.holds) ∙ sym (append-nil (texts ++ texts_of (piece ∷ [])))),
  answers start texts piece so_far,
)

-- the texts that both parts end
both_parts : (texts : List (List ℕ)) (piece xs ys : List ℕ) → (texts ++ texts_of (ended_from piece xs)) ++ texts_of (ended_from (rest_from piece xs) ys) ≡ texts ++ texts_of (ended_from piece (xs ++ ys))
both_parts texts piece xs ys =
    append_assoc texts _ _ ∙ ap (λ ts. texts ++ ts) (sym (texts-append (ended_from piece xs) (ended_from (rest_from piece xs) ys)) ∙ ap texts_of (sym (ended-append piece xs ys)))

pub takes_more : (session : ℕ) (going : Bool) (xs ys : List ℕ) (a b c : Moment) → TakesBytes session xs true a b → TakesBytes session ys going b c → TakesBytes session (xs ++ ys) going a c
takes_more session true xs ys a b c one second start texts piece so_far =
    subst (λ (ts : List (List ℕ)). Progress session start ts (rest_from piece (xs ++ ys)) c) (both_parts texts piece xs ys)
    (subst (λ (p : List ℕ). Progress session start ((texts ++ texts_of (ended_from piece xs)) ++ texts_of (ended_from (rest_from piece xs) ys)) p c) (sym (rest-append piece xs ys))
    (second start (texts ++ texts_of (ended_from piece xs)) (rest_from piece xs) (one start texts piece so_far)))
takes_more session false xs ys a b c one second start texts piece so_far =
    let stopped = second start (texts ++ texts_of (ended_from piece xs)) (rest_from piece xs) (one start texts piece so_far) in
    (stopped.0, (stopped.1.0, sym (both_parts texts piece xs ys) ∙ stopped.1.1), stopped.2)

pub takes_cut : (session : ℕ) (xs ys : List ℕ) (a b : Moment) → TakesBytes session xs false a b → TakesBytes session (xs ++ ys) false a b
takes_cut session xs ys a b one start texts piece so_far =
    let stopped = one start texts piece so_far in (
      stopped.0,
      (
        stopped.1.0 ++ texts_of (ended_from (rest_from piece xs) ys),
        sym (both_parts texts piece xs ys) ∙ ap (λ ts. ts ++ texts_of (ended_from (rest_from piece xs) ys)) stopped.1.1 ∙ append_assoc stopped.0 stopped.1.0 _,
      ),
      stopped.2,
    )

-- bytes from a place on
pub run_more : (session : ℕ) (xs rest : List ℕ) (at n : ℕ) (a b c : Moment) → rest ≡ drop at xs → TakesBytes session (take at xs) true a b → TakesBytes session (take n rest) true b c → TakesBytes session (take (at + n) xs) true a c
run_more session xs rest at n a b c is one second =
    subst (λ (bs : List ℕ). TakesBytes session bs true a c) (ap (λ (r : List ℕ). take at xs ++ take n r) is ∙ sym (take-add at n xs)) (takes_more session true (take at xs) (take n rest) a b c one second)

pub byte_more : (session : ℕ) (going : Bool) (xs : List ℕ) (i : ℕ) (a b c : Moment) → i < length xs → TakesBytes session (take i xs) true a b → TakesBytes session (get_or xs i 0 ∷ []) going b c → TakesBytes session (take (i + 1) xs) going a c
byte_more session going xs i a b c within one second =
    subst (λ (bs : List ℕ). TakesBytes session bs going a c) (sym (take_more xs i 0 within)) (takes_more session going (take i xs) (get_or xs i 0 ∷ []) a b c one second)

pub all_cut : (session : ℕ) (xs : List ℕ) (i : ℕ) (a b : Moment) → TakesBytes session (take i xs) false a b → TakesBytes session xs false a b
all_cut session xs i a b cut = subst (λ (bs : List ℕ). TakesBytes session bs false a b) (take-append-drop i xs) (takes_cut session (take i xs) (drop i xs) a b cut)

-- a run of bytes from a place on stays within
pub still_inside : (xs : List ℕ) (at n : ℕ) → at ≤ length xs → n ≤ length (take (length xs - at) (drop at xs)) → at + n ≤ length xs
still_inside xs at n inside within = omega (arith, within, length-take (length xs - at) (drop at xs), length-drop at xs)
