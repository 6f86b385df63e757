-- Cursors of a session that come, go and are passed.
use Rattle.std.proofs.Common.{◌≡◌, ℕ, zero, suc, ◌+◌, ◌<◌, Bool, List, [], ◌∷◌, length, map, take, drop, set, refl, sym, ap, ap₂, ◌∙◌, subst}
use Rattle.std.specs.Prelude.{◌==◌}
use Rattle.std.proofs.lemmas.List.{get_or-set_same, map-append, map-set}
use Rattle.vec_base.specs.declared.value.Value.{Value}
use Rattle.row_model.specs.declared.request.Reply.TheVariants.{Cursor as CursorReply, Done, Page}
use Rattle.row_model.specs.Machine.{cursor_of, in_session, with_cursor}
use Rattle.row_model.specs.Step.{cursor_closed, fetched}
use Rattle.snapshot_cursor.specs.declared.cursor.Cursor.{Cursor}
use Rattle.snapshot_cursor.specs.Left.{rows_left}
use Rattle.txn_sessions.specs.declared.machine.Machine.{Machine}
use Rattle.txn_sessions.specs.declared.session.OpenCursor.{OpenCursor}
use Rattle.txn_sessions.specs.declared.session.OpenSession.{OpenSession}
use Rattle.txn_sessions.specs.declared.session.Origin.{Origin}
use Rattle.txn_sessions.specs.Exchanges.{Exchanges}
use Rattle.txn_sessions.specs.Lookups.{IsAt, IsCursor}
use Rattle.txn_sessions.specs.Seen.{Versions, cursor_seen, rows_over, session_at, session_seen, state_of}
use Rattle.txn_sessions.specs.Sessions.{cursor_at, exchanged, no_cursor, open_at, session_new, with_added, without_place}
use Rattle.txn_sessions.specs.Sound.{IsOrigin, IsSound, IsSoundSession}
use Rattle.txn_sessions.specs.Takes.{Takes, cursor_added}
use Rattle.txn_sessions.proofs.SessionLaws.{map-removed, on_at}
use Rattle.txn_sessions.proofs.TurnLaws.{each_at, each_more, each_removed, each_set, takes_session}

-- ---- one goes

pub without-on : (shelf : Versions) (place : ℕ) (s : OpenSession) → IsSoundSession shelf s → IsSoundSession shelf (without_place place s)
without-on shelf place s on = record { phase = on.phase; marks = on.marks; cursors = each_removed (λ (c : OpenCursor). IsOrigin shelf c.origin) s.cursors place on.cursors }

pub closed-is : (old : Machine) (at number place : ℕ) → IsCursor number (open_at old.sessions.items at).cursors place →
    cursor_closed number (state_of old) (session_at old at) (cursor_of number (session_at old at).cursors) ≡ (Done, in_session (state_of old) (session_seen old.shelf (without_place place (open_at old.sessions.items at))))
closed-is old at number place found =
    ap (λ o. cursor_closed number (state_of old) (session_at old at) o) (found.is old.shelf)
    ∙ ap (λ cs. (Done, in_session (state_of old) (record (session_at old at) { cursors = cs }))) (found.gone old.shelf ∙ sym (map-removed (cursor_seen old.shelf) (open_at old.sessions.items at).cursors place))

-- ---- one comes

pub added-on : (shelf : Versions) (cursor : Cursor) (origin : Origin) (s : OpenSession) → IsOrigin shelf origin → IsSoundSession shelf s → IsSoundSession shelf (with_added cursor origin s)
added-on shelf cursor origin s own on = record {
  phase = on.phase;
  marks = on.marks;
  cursors = each_more (λ (c : OpenCursor). IsOrigin shelf c.origin) s.cursors (record { number = s.last_cursor + 1; cursor = cursor; origin = origin }) on.cursors own;
}

pub added-is : (old : Machine) (at : ℕ) (cursor : Cursor) (origin : Origin) →
    cursor_added old at (rows_left cursor (rows_over old.shelf origin))
    ≡ (CursorReply ((open_at old.sessions.items at).last_cursor + 1), in_session (state_of old) (session_seen old.shelf (with_added cursor origin (open_at old.sessions.items at))))
added-is old at cursor origin =
    let s = open_at old.sessions.items at in
    ap (λ cs. (CursorReply (s.last_cursor + 1), in_session (state_of old) (record (session_at old at) { cursors = cs; last_cursor = s.last_cursor + 1 })))
    (sym (map-append (cursor_seen old.shelf) s.cursors (record { number = s.last_cursor + 1; cursor = cursor; origin = origin } ∷ [])))

-- ---- one in place of another

set-twice : {A : Type 0} (xs : List A) (i : ℕ) (x y : A) → set (set xs i x) i y ≡ set xs i y
set-twice [] i x y = refl
set-twice (z ∷ zs) zero x y = refl
set-twice (z ∷ zs) (suc i) x y = ap (λ l. z ∷ l) (set-twice zs i x y)

exchanged-twice : (place : ℕ) (a b : OpenCursor) (s : OpenSession) → exchanged place b (exchanged place a s) ≡ exchanged place b s
exchanged-twice place a b s = ap (λ cs. record s { cursors = cs }) (set-twice s.cursors place a b)

pub exchanges-twice : (old mid new : Machine) (at place : ℕ) (a b given back : OpenCursor) → at < length old.sessions.items → Exchanges old at place a given mid → Exchanges mid at place b back new → Exchanges old at place b given new
exchanges-twice old mid new at place a b given back lt one two =
    let here : open_at mid.sessions.items at ≡ exchanged place a (open_at old.sessions.items at) =
    ap (λ (ss : List OpenSession). open_at ss at) one.sessions ∙ get_or-set_same old.sessions.items at (exchanged place a (open_at old.sessions.items at)) (session_new 0) lt in
    record {
      given = one.given;
      shelf = two.shelf ∙ one.shelf;
      held = two.held ∙ one.held;
      commits = two.commits ∙ one.commits;
      last_id = two.last_id ∙ one.last_id;
      sessions =
          two.sessions
          ∙ ap₂ (λ (ss : List OpenSession) (s : OpenSession). set ss at (exchanged place b s)) one.sessions here
          ∙ set-twice old.sessions.items at _ _
          ∙ ap (λ (s : OpenSession). set old.sessions.items at s) (exchanged-twice place a b (open_at old.sessions.items at));
    }

exchanged-on : (shelf : Versions) (place : ℕ) (c : OpenCursor) (s : OpenSession) → IsOrigin shelf c.origin → IsSoundSession shelf s → IsSoundSession shelf (exchanged place c s)
exchanged-on shelf place c s own on = record { phase = on.phase; marks = on.marks; cursors = each_set (λ (o : OpenCursor). IsOrigin shelf o.origin) s.cursors place c on.cursors own }

-- the origin of a cursor of a sound machine
pub origin_at : (m : Machine) (at place : ℕ) → IsSound m → at < length m.sessions.items → place < length (open_at m.sessions.items at).cursors → IsOrigin m.shelf (cursor_at (open_at m.sessions.items at).cursors place).origin
origin_at m at place sound lt within = each_at (λ (c : OpenCursor). IsOrigin m.shelf c.origin) (open_at m.sessions.items at).cursors place no_cursor (on_at m at sound lt).cursors within

-- the cursor of the number has passed its next rows
pub fetches : (old new : Machine) (at number place count : ℕ) (given passed : OpenCursor) (rows : List (List Value)) (is_end : Bool) → IsSound old → IsAt old.sessions.items at → IsCursor number (open_at old.sessions.items at).cursors place →
    Exchanges old at place passed given new → passed.number ≡ given.number → passed.origin ≡ given.origin →
    rows ≡ take count (rows_left given.cursor (rows_over old.shelf given.origin)) →
    is_end ≡ (length (drop count (rows_left given.cursor (rows_over old.shelf given.origin))) == 0) →
    rows_left passed.cursor (rows_over old.shelf given.origin) ≡ drop count (rows_left given.cursor (rows_over old.shelf given.origin)) →
    Takes old (fetched count (state_of old) (session_at old at) (cursor_of number (session_at old at).cursors)) (Page rows is_end) new
fetches old new at number place count given passed rows is_end sound a found one own origin page end left =
    let s = open_at old.sessions.items at in
    let there = cursor_at s.cursors place in
    let sees : cursor_seen old.shelf passed ≡ record (cursor_seen old.shelf there) { rows = drop count (cursor_seen old.shelf there).rows } =
    ap₂ (λ n l. record { number = n; rows = l }) (own ∙ ap (λ (c : OpenCursor). c.number) one.given)
    (ap (λ o. rows_left passed.cursor (rows_over old.shelf o)) origin ∙ left ∙ ap (λ (c : OpenCursor). drop count (rows_left c.cursor (rows_over old.shelf c.origin))) one.given) in
    let from : IsOrigin old.shelf passed.origin = subst (λ o. IsOrigin old.shelf o) (sym (origin ∙ ap (λ (c : OpenCursor). c.origin) one.given)) (origin_at old at place sound a.within found.within) in
    takes_session old _ (Page rows is_end) new at (exchanged place passed s) sound a refl (exchanged-on old.shelf place passed s from (on_at old at sound a.within))
    (ap (λ o. fetched count (state_of old) (session_at old at) o) (found.is old.shelf)
    ∙ ap₂ (λ r e. (Page r e, in_session (state_of old) (record (session_at old at) { cursors = with_cursor (record (cursor_seen old.shelf there) { rows = drop count (cursor_seen old.shelf there).rows }) (session_at old at).cursors })))
    (ap (λ (c : OpenCursor). take count (rows_left c.cursor (rows_over old.shelf c.origin))) (sym one.given) ∙ sym page)
    (ap (λ (c : OpenCursor). length (drop count (rows_left c.cursor (rows_over old.shelf c.origin))) == 0) (sym one.given) ∙ sym end)
    ∙ ap (λ cs. (Page rows is_end, in_session (state_of old) (record (session_at old at) { cursors = cs })))
    (found.put old.shelf _ found.own ∙ ap (λ c. set (map (cursor_seen old.shelf) s.cursors) place c) (sym sees) ∙ sym (map-set (cursor_seen old.shelf) s.cursors place passed)))
    one.shelf one.held one.commits one.last_id one.sessions
