-- What requests make of one session.
use Rattle.std.proofs.Common.{◌≡◌, ℕ, zero, suc, ◌+◌, ◌<◌, false, ◌&&◌, List, [], ◌∷◌, ◌++◌, length, take, drop, get_or, set, Option, Some, None, Ok, Err, inl, inr, refl, sym, ap, ◌∙◌, arith}
use Rattle.std.specs.Prelude.{◌==◌, slice_set}
use Rattle.std.specs.List.{AllByRecursion, remove}
use Rattle.std.specs.Vec.{with_item}
use Rattle.std.proofs.lemmas.List.{get_or_default, length-take-le}
use Rattle.vec_base.specs.declared.refusal.Refusal.{Refusal}
use Rattle.vec_base.specs.declared.value.Value.{Value}
use Rattle.row_model.specs.declared.request.Reply.{Reply}
use Rattle.row_model.specs.declared.request.Reply.TheVariants.{Done, Page}
use Rattle.row_model.specs.declared.row.Named.{Named}
use Rattle.row_model.specs.declared.state.CursorRows.{CursorRows}
use Rattle.row_model.specs.declared.state.Mark.{Mark}
use Rattle.row_model.specs.declared.state.Phase.{Phase}
use Rattle.row_model.specs.declared.state.Phase.TheVariants.{Idle, Reading, Writing}
use Rattle.row_model.specs.declared.state.Session.{Session}
use Rattle.row_model.specs.declared.state.State.{State}
use Rattle.row_model.specs.declared.statement.Select.{Select}
use Rattle.row_model.specs.Answer.{answer}
use Rattle.row_model.specs.Check.{check_select}
use Rattle.row_model.specs.Limits.{over_cursors, over_cursor_numbers}
use Rattle.row_model.specs.Machine.{cursor_of, in_session, new_session, newest_mark, seen_in, unless, with_cursor}
use Rattle.row_model.specs.RefusalOrder.{first, listed}
use Rattle.row_model.specs.Step.{committed, cursor_closed, cursor_opened, fetched, found, released}
use Rattle.row_model.specs.Valid.{IsValidCatalog, IsValidPhase, IsValidSession, IsValidState}
use Rattle.plain_engine.specs.declared.machine.Machine.{Machine}
use Rattle.plain_engine.specs.inner.CursorAnswers.{cursor_rows, opened_over, or_refused, rows_to}
use Rattle.plain_engine.specs.inner.Machines.{Answers, IsAt, seen_at, session_at, session_in, state_of}
use Rattle.plain_engine.specs.inner.Places.{IsCursorAt, IsMarkAt}
use Rattle.plain_engine.specs.inner.SessionChanges.{cut_to}

-- the session that was read at a place
pub session-is : (sessions : List Session) (at : ℕ) (s : Session) → at < length sessions → s ≡ get_or sessions at s → session_in sessions at ≡ s
session-is sessions at s lt e = get_or_default sessions at (new_session 0) s lt ∙ sym e

pub answers_same : (a b : Reply × State) (old : Machine) (reply : Reply) (new : Machine) → a ≡ b → Answers b old reply new → Answers a old reply new
answers_same a b old reply new e (inl is) = inl (e ∙ is)
answers_same a b old reply new e (inr want) = inr want

-- one session is changed
pub changed : (f : Session → Session) (m : Machine) (at : ℕ) (s t : Session) → IsAt m.sessions.items at → s ≡ get_or m.sessions.items at s → t ≡ f s →
    (f (session_at m at)).id ≡ (session_at m at).id →
    in_session (state_of m) (f (session_at m at)) ≡ state_of (record { catalog = m.catalog; commits = m.commits; last_id = m.last_id; sessions = with_item m.sessions at t })
changed f m at s t a here is own =
    let same : f (session_at m at) ≡ t = ap f (session-is m.sessions.items at s a.within here) ∙ sym is in
    ap (λ (xs : List Session). record (state_of m) { sessions = xs }) (a.put (f (session_at m at)) own ∙ ap (λ (x : Session). set m.sessions.items at x) same)

-- ---- marks

no_mark : Mark
no_mark = record { name = []; catalog = record { tables = [] } }

pub released-cut : (name : List ℕ) (state : State) (session : Session) (place : ℕ) → IsMarkAt name session.marks place → ((place == 0) && session.by_savepoint) ≡ false →
    released name state session (newest_mark name session.marks) ≡ (Done, in_session state (cut_to place session))
released-cut name state session place found other =
    let few : length (take place session.marks) ≡ place = length-take-le place session.marks (let h : place < length session.marks = found.within in omega arith) in
    ap (released name state session) (found.is no_mark)
    ∙ rw (found.before, few, other) refl

-- ---- cursors

no_cursor : CursorRows
no_cursor = record { number = 0; rows = [] }

pub fetched-is : (state : State) (session : Session) (number count place : ℕ) (cursor : CursorRows) (page left : List (List Value)) →
    IsCursorAt number session.cursors place → cursor ≡ get_or session.cursors place cursor → page ≡ take count cursor.rows → left ≡ drop count cursor.rows →
    fetched count state session (cursor_of number session.cursors)
    ≡ (Page page (length left == 0), in_session state (record session { cursors = slice_set session.cursors place (record { number = number; rows = left }) }))
fetched-is state session number count place cursor page left found read pages lefts =
    let same : cursor.number ≡ number = ap (λ (c : CursorRows). c.number) read ∙ found.same cursor in
    let put : with_cursor (record cursor { rows = left }) session.cursors ≡ slice_set session.cursors place (record { number = number; rows = left }) =
    found.put (record cursor { rows = left }) same ∙ ap (λ n. slice_set session.cursors place (record { number = n; rows = left })) same in
    ap (fetched count state session) (found.is cursor ∙ ap (λ c. Some c) (sym read))
    ∙ rw (sym pages, sym lefts, put) refl

pub closed-is : (state : State) (session : Session) (number place : ℕ) → IsCursorAt number session.cursors place →
    cursor_closed number state session (cursor_of number session.cursors) ≡ (Done, in_session state (record session { cursors = remove session.cursors place }))
closed-is state session number place found = ap (cursor_closed number state session) (found.is no_cursor) ∙ rw found.gone refl

-- what refuses a cursor comes before its rows
opened-by : (select : Select) (state : State) (session : Session) (table : Option Named) →
    cursor_opened select state session table
    ≡ opened_over state session (cursor_rows select (first (over_cursors (length session.cursors + 1) ++ over_cursor_numbers (session.last_cursor + 1))) table)
opened-by select state session None = refl
opened-by select state session (Some named) =
    by_fault (check_select named.table.schema.columns select) (over_cursors (length session.cursors + 1)) (over_cursor_numbers (session.last_cursor + 1)) (answer named.table select)
  where
    by_list : (refusals : List Refusal) (rows : List (List Value)) →
        unless refusals state (opened_over state session (Ok rows)) ≡ opened_over state session (or_refused (first refusals) (Ok rows))
    by_list [] rows = refl
    by_list (r ∷ rs) rows = refl

    by_fault : (fault : Option Refusal) (full spent : List Refusal) (rows : List (List Value)) →
        unless (listed fault ++ full ++ spent) state (opened_over state session (Ok rows)) ≡ opened_over state session (or_refused fault (or_refused (first (full ++ spent)) (Ok rows)))
    by_fault (Some refusal) full spent rows = refl
    by_fault None full spent rows = by_list (full ++ spent) rows

pub opened-is : (select : Select) (state : State) (session : Session) →
    cursor_opened select state session (found select.table state session) ≡ opened_over state session (rows_to select state session)
opened-is select state session = opened-by select state session (found select.table state session)

-- where rows are given, a number is left for the cursor
pub number-left : (select : Select) (state : State) (session : Session) (rows : List (List Value)) → Ok rows ≡ rows_to select state session →
    first (over_cursor_numbers (session.last_cursor + 1)) ≡ None
number-left select state session rows is = by_table (found select.table state session) is
  where
    refused_not : (refusal : Refusal) → Ok rows ≡ Err refusal → first (over_cursor_numbers (session.last_cursor + 1)) ≡ None
    refused_not refusal e = absurd cc

    by_list : (full spent : List Refusal) (given : List (List Value)) → Ok rows ≡ or_refused (first (full ++ spent)) (Ok given) → first spent ≡ None
    by_list [] [] given e = refl
    by_list [] (r ∷ rs) given e = absurd cc
    by_list (r ∷ rs) spent given e = absurd cc

    by_fault : (fault : Option Refusal) (given : List (List Value)) →
        Ok rows ≡ or_refused fault (or_refused (first (over_cursors (length session.cursors + 1) ++ over_cursor_numbers (session.last_cursor + 1))) (Ok given)) →
        first (over_cursor_numbers (session.last_cursor + 1)) ≡ None
    by_fault None given e = by_list (over_cursors (length session.cursors + 1)) (over_cursor_numbers (session.last_cursor + 1)) given e
    by_fault (Some refusal) given e = refused_not refusal e

    by_table : (table : Option Named) →
        Ok rows ≡ cursor_rows select (first (over_cursors (length session.cursors + 1) ++ over_cursor_numbers (session.last_cursor + 1))) table →
        first (over_cursor_numbers (session.last_cursor + 1)) ≡ None
    by_table None e = absurd cc
    by_table (Some named) e = by_fault (check_select named.table.schema.columns select) (answer named.table select) e

-- ---- the catalog that is seen is valid

each_at : (P : Session → Type 0) (sessions : List Session) (at : ℕ) (d : Session) → AllByRecursion P sessions → at < length sessions → P (get_or sessions at d)
each_at P [] at d all lt = absurd (omega (arith, lt))
each_at P (s ∷ ss) zero d all lt = all.0
each_at P (s ∷ ss) (suc at) d all lt = each_at P ss at d all.1 (omega (arith, lt))

phase_sees : (state : State) (phase : Phase) → IsValidCatalog state.catalog → IsValidPhase phase → IsValidCatalog (seen_in state phase)
phase_sees state Idle committed fine = committed
phase_sees state (Reading catalog number) committed fine = fine
phase_sees state (Writing base work) committed fine = fine

pub sees_valid : (m : Machine) (at : ℕ) → IsAt m.sessions.items at → IsValidState (state_of m) → IsValidCatalog (seen_at m at)
sees_valid m at a valid =
    phase_sees (state_of m) (session_at m at).phase valid.committed (each_at (λ (s : Session). IsValidSession s) m.sessions.items at (new_session 0) valid.sessions a.within).phase
