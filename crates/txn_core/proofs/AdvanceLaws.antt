-- An advance leads to the state of a fetch.
use Rattle.std.proofs.Common.{◌≡◌, ℕ, Option, Some, None, inl, refl, sym, ap, ◌∙◌, subst}
use Rattle.row_model.specs.Machine.{cursor_of, on_session, session_of, where_open}
use Rattle.row_model.specs.Step.{answer_of, fetched}
use Rattle.row_model.specs.Valid.{IsValidState}
use Rattle.row_model.specs.declared.request.Reply.{Reply}
use Rattle.row_model.specs.declared.request.Request.TheVariants.{Fetch}
use Rattle.row_model.specs.declared.state.CursorRows.{CursorRows}
use Rattle.row_model.specs.declared.state.Session.{Session}
use Rattle.row_model.specs.declared.state.State.{State}
use Rattle.row_model.proofs.ValidityStates.{steps_valid}
use Rattle.txn_reads.specs.Advancing.{advanced}

by_cursor : (count : ℕ) (state : State) (session : Session) (cursor : Option CursorRows) → (advanced count state session cursor).1 ≡ (fetched count state session cursor).1
by_cursor count state session None = refl
by_cursor count state session (Some cursor) = refl

by_session : (count number : ℕ) (state : State) (session : Option Session) →
    (where_open state session (λ s. advanced count state s (cursor_of number s.cursors))).1 ≡ (where_open state session (λ s. fetched count state s (cursor_of number s.cursors))).1
by_session count number state None = refl
by_session count number state (Some session) = by_cursor count state session (cursor_of number session.cursors)

pub advanced-valid : (state next : State) (id number count : ℕ) (reply : Reply) → IsValidState state → on_session state id (λ s. advanced count state s (cursor_of number s.cursors)) ≡ (reply, next) → IsValidState next
advanced-valid state next id number count reply valid step =
    let request = Fetch id number count in
    let fetched_valid : IsValidState (answer_of state request).1 = steps_valid state (answer_of state request).1 request (answer_of state request).0 valid tt (inl refl) in
    let same : (answer_of state request).1 ≡ next = sym (by_session count number state (session_of id state.sessions)) ∙ ap (λ a. a.1) step in
    subst IsValidState same fetched_valid
