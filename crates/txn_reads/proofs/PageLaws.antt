-- Pages of cursors, and cursors that are passed.
use Rattle.std.proofs.Common.{◌≡◌, ◌⊎◌, ℕ, Bool, List, length, take, drop, Option, Some, None, inl, inr, refl, sym, ap, ap₂, ◌∙◌}
use Rattle.std.specs.Prelude.{◌==◌}
use Rattle.vec_base.specs.declared.refusal.Refusal.TheVariants.{NoCursor, WantOfMemory}
use Rattle.vec_base.specs.declared.value.Value.{Value}
use Rattle.row_model.specs.Machine.{cursor_of}
use Rattle.row_model.specs.Step.{fetched}
use Rattle.row_model.specs.declared.request.Reply.{Reply}
use Rattle.row_model.specs.declared.request.Reply.TheVariants.{Done, Page, Refused}
use Rattle.row_model.specs.declared.state.CursorRows.{CursorRows}
use Rattle.row_model.specs.declared.state.Session.{Session}
use Rattle.row_model.specs.declared.state.State.{State}
use Rattle.snapshot_cursor.specs.Left.{rows_left}
use Rattle.txn_reads.specs.Advancing.{advanced}
use Rattle.txn_reads.specs.inner.Passing.{Passes}
use Rattle.txn_sessions.specs.Lookups.{IsAt, IsCursor}
use Rattle.txn_sessions.specs.Seen.{rows_over, session_at, state_of}
use Rattle.txn_sessions.specs.Sessions.{cursor_at, open_at}
use Rattle.txn_sessions.specs.Sound.{IsSound}
use Rattle.txn_sessions.specs.Takes.{Takes}
use Rattle.txn_sessions.specs.declared.machine.Machine.{Machine}
use Rattle.txn_sessions.proofs.ExchangeLaws.{fetches}

abbrev pub fetch-of : Machine → ℕ → ℕ → ℕ → Reply × State
fetch-of machine at number count = fetched count (state_of machine) (session_at machine at) (cursor_of number (session_at machine at).cursors)

abbrev pub advance-of : Machine → ℕ → ℕ → ℕ → Reply × State
advance-of machine at number count = advanced count (state_of machine) (session_at machine at) (cursor_of number (session_at machine at).cursors)

-- the page of the cursor at a place
pub paged : (machine : Machine) (at number place count : ℕ) (rows : List (List Value)) (is_end : Bool) → IsCursor number (open_at machine.sessions.items at).cursors place →
    rows ≡ take count (rows_left (cursor_at (open_at machine.sessions.items at).cursors place).cursor (rows_over machine.shelf (cursor_at (open_at machine.sessions.items at).cursors place).origin)) →
    is_end ≡ (length (drop count (rows_left (cursor_at (open_at machine.sessions.items at).cursors place).cursor (rows_over machine.shelf (cursor_at (open_at machine.sessions.items at).cursors place).origin))) == 0) →
    (fetch-of machine at number count).0 ≡ Page rows is_end
paged machine at number place count rows is_end found page end =
    ap (λ o. (fetched count (state_of machine) (session_at machine at) o).0) (found.is machine.shelf) ∙ ap₂ (λ (l : List (List Value)) (b : Bool). Page l b) (sym page) (sym end)

-- the reply of a fetch apart, both lead to one state
advanced-by : (count : ℕ) (state next : State) (session : Session) (cursor : Option CursorRows) (rows : List (List Value)) (is_end : Bool) → fetched count state session cursor ≡ (Page rows is_end, next) → advanced count state session cursor ≡ (Done, next)
advanced-by count state next session None rows is_end step = (let same : ◌≡◌ {A = Reply} (Refused NoCursor) (Page rows is_end) = ap (λ a. a.0) step in absurd cc)
advanced-by count state next session (Some cursor) rows is_end step = ap (λ (s : State). (Done, s)) (ap (λ a. a.1) step)

pub passes : (old new : Machine) (at number place count : ℕ) → IsSound old → IsAt old.sessions.items at → IsCursor number (open_at old.sessions.items at).cursors place → Passes old at place count new → Takes old (advance-of old at number count) Done new
passes old new at number place count sound a found passed =
    let given = passed.given in
    let rows = rows_left given.cursor (rows_over old.shelf given.origin) in
    let taken = fetches old new at number place count given passed.passed (take count rows) (length (drop count rows) == 0) sound a found passed.exchanges passed.is.number passed.is.origin refl refl passed.is.rows in
    record {
      sound = taken.sound;
      step = advanced-by count (state_of old) (state_of new) (session_at old at) (cursor_of number (session_at old at).cursors) (take count rows) (length (drop count rows) == 0) taken.step;
      count = taken.count;
      committed = taken.committed;
    }

fetched-by : (count : ℕ) (state next : State) (session : Session) (cursor : Option CursorRows) (rows : List (List Value)) (is_end : Bool) (reply : Reply) → ((fetched count state session cursor).0 ≡ Page rows is_end) ⊎ (Page rows is_end ≡ Refused WantOfMemory) →
    advanced count state session cursor ≡ (reply, next) → fetched count state session cursor ≡ (Page rows is_end, next)
fetched-by count state next session None rows is_end reply (inl page) step = absurd cc
fetched-by count state next session (Some cursor) rows is_end reply (inl page) step = ap₂ (λ (r : Reply) (s : State). (r, s)) page (ap (λ a. a.1) step)
fetched-by count state next session cursor rows is_end reply (inr starved) step = absurd cc

-- a page, and then an advance
pub fetched-takes : (old new : Machine) (at number count : ℕ) (rows : List (List Value)) (is_end : Bool) (reply : Reply) → ((fetch-of old at number count).0 ≡ Page rows is_end) ⊎ (Page rows is_end ≡ Refused WantOfMemory) →
    Takes old (advance-of old at number count) reply new → Takes old (fetch-of old at number count) (Page rows is_end) new
fetched-takes old new at number count rows is_end reply page taken = record {
  sound = taken.sound;
  step = fetched-by count (state_of old) (state_of new) (session_at old at) (cursor_of number (session_at old at).cursors) rows is_end reply page taken.step;
  count = taken.count;
  committed = taken.committed;
}
