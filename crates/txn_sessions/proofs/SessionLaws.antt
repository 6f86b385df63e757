-- What the answers make of one session, as it is kept.
use Rattle.std.proofs.Common.{◌≡◌, ℕ, zero, suc, ◌+◌, ◌<◌, Bool, true, false, ◌||◌, ◌&&◌, List, [], ◌∷◌, ◌++◌, length, map, take, get_or, set, Some, None, refl, sym, ap, ap₂, ◌∙◌, subst, arith, min, nat_lt, ⊎_elim}
use Rattle.std.specs.Prelude.{◌==◌, if◌then◌else◌}
use Rattle.std.specs.List.{AllByRecursion, remove}
use Rattle.std.specs.Vec.{with_item}
use Rattle.std.proofs.lemmas.List.{map-append, length-map, get_or_default, length-take-le}
use Rattle.vec_base.specs.declared.refusal.Refusal.TheVariants.{WantOfMemory}
use Rattle.row_model.specs.declared.request.Reply.{Reply}
use Rattle.row_model.specs.declared.request.Reply.TheVariants.{Done, Refused, Session as Opened}
use Rattle.row_model.specs.declared.state.Session.{Session}
use Rattle.row_model.specs.declared.state.State.{State}
use Rattle.row_model.specs.Limits.{over, over_commits, over_savepoints, over_sessions, over_session_ids}
use Rattle.row_model.specs.declared.limits.TheConstants.{COMMITS_LIMIT}
use Rattle.vec_base.specs.declared.limits.TheConstants.{LAST_COUNT, MOST_COMMITS}
use Rattle.vec_base.specs.declared.refusal.Refusal.TheVariants.{Full}
use Rattle.std.proofs.lemmas.Bool.{cases_lt}
use Rattle.row_model.specs.RefusalOrder.{first, when}
use Rattle.row_model.specs.Machine.{in_session, is_idle, newest_mark}
use Rattle.row_model.specs.Step.{begun, closed, committed, commits_spent, given_back, marked, opened, released, rolled_back, rolled_to, saved}
use Rattle.version_shelf.specs.declared.held.Held.{Held}
use Rattle.txn_sessions.specs.declared.machine.Machine.{Machine}
use Rattle.txn_sessions.specs.declared.session.Mark.{Mark}
use Rattle.txn_sessions.specs.declared.session.OpenCursor.{OpenCursor}
use Rattle.txn_sessions.specs.declared.session.Phase.{Phase}
use Rattle.txn_sessions.specs.declared.session.Phase.TheVariants.{Idle, Reading, Writing}
use Rattle.txn_sessions.specs.declared.session.OpenSession.{OpenSession}
use Rattle.txn_sessions.specs.Lookups.{IsAt, IsMark}
use Rattle.txn_sessions.specs.Sessions.{begin_phase, cut_to, entered, gone_back, held_in, is_idle_phase, left_idle, mark_at, no_mark, open_at, saved_in, saved_session, session_new, with_held}
use Rattle.txn_sessions.specs.Seen.{Versions, catalog_at, mark_seen, phase_seen, session_at, session_seen, sessions_seen, state_of}
use Rattle.txn_sessions.specs.Sound.{InPhase, IsOn, IsSound, IsSoundSession}
use Rattle.txn_sessions.specs.Takes.{Takes}
use Rattle.txn_sessions.specs.Turns.{IsPending, begin_refusals, released_at}
use Rattle.txn_sessions.proofs.TurnLaws.{each_at, each_more, each_removed, session_set, takes_session, unless-none}

pub session-is : (sessions : List OpenSession) (at : ℕ) (s : OpenSession) → at < length sessions → s ≡ get_or sessions at s → open_at sessions at ≡ s
session-is sessions at s lt e = get_or_default sessions at (session_new 0) s lt ∙ sym e

abbrev pub on_at : (old : Machine) (at : ℕ) → IsSound old → at < length old.sessions.items → IsSoundSession old.shelf (open_at old.sessions.items at)
on_at old at sound lt = each_at (IsSoundSession old.shelf) old.sessions.items at (session_new 0) sound.in_sessions lt

-- one session is changed
pub takes_change : (f : OpenSession → OpenSession) (old : Machine) (answer : Reply × State) (reply : Reply) (at : ℕ) (s t : OpenSession) → IsSound old → IsAt old.sessions.items at → s ≡ get_or old.sessions.items at s → t ≡ f s →
    (f (open_at old.sessions.items at)).id ≡ (open_at old.sessions.items at).id → (IsSoundSession old.shelf (open_at old.sessions.items at) → IsSoundSession old.shelf (f (open_at old.sessions.items at))) →
    answer ≡ (reply, in_session (state_of old) (session_seen old.shelf (f (open_at old.sessions.items at)))) →
    Takes old answer reply (record { shelf = old.shelf; held = old.held; commits = old.commits; last_id = old.last_id; sessions = with_item old.sessions at t })
takes_change f old answer reply at s t sound a here changed own on is =
    let same : t ≡ f (open_at old.sessions.items at) = changed ∙ ap f (sym (session-is old.sessions.items at s a.within here)) in
    takes_session old answer reply _ at (f (open_at old.sessions.items at)) sound a own (on (on_at old at sound a.within)) is refl refl refl refl (ap (λ (x : OpenSession). set old.sessions.items at x) same)

-- ---- BEGIN

pub begun-is : (old : Machine) (at : ℕ) (immediate : Bool) → None ≡ first (begin_refusals immediate (sessions_seen old.shelf old.sessions.items) (session_at old at)) →
    begun immediate (state_of old) (session_at old at) ≡ (Done, in_session (state_of old) (session_seen old.shelf (entered (begin_phase immediate old.held old.commits) (open_at old.sessions.items at))))
begun-is old at true none = unless-none _ _ _ none
begun-is old at false none = unless-none _ _ _ none

pub begun-on : (old : Machine) (immediate : Bool) (s : OpenSession) → IsSound old → IsSoundSession old.shelf s → IsSoundSession old.shelf (entered (begin_phase immediate old.held old.commits) s)
begun-on old true s sound on = record { phase = sound.committed; marks = tt; cursors = on.cursors }
begun-on old false s sound on = record { phase = sound.committed; marks = tt; cursors = on.cursors }

-- ---- COMMIT, ROLLBACK

pub idle-seen : (shelf : Versions) (p : Phase) → is_idle (phase_seen shelf p) ≡ is_idle_phase p
idle-seen shelf Idle = refl
idle-seen shelf (Reading held number) = refl
idle-seen shelf (Writing base held) = refl

pub entered-on : (shelf : Versions) (s : OpenSession) → IsSoundSession shelf s → IsSoundSession shelf (entered Idle s)
entered-on shelf s on = record { phase = tt; marks = tt; cursors = on.cursors }

pub left-on : (shelf : Versions) (s : OpenSession) → IsSoundSession shelf s → IsSoundSession shelf (left_idle s)
left-on shelf s on = record { phase = tt; marks = tt; cursors = tt }

pub rolled_back-is : (old : Machine) (at : ℕ) → is_idle_phase (open_at old.sessions.items at).phase ≡ false →
    rolled_back (state_of old) (session_at old at) ≡ (Done, in_session (state_of old) (session_seen old.shelf (left_idle (open_at old.sessions.items at))))
rolled_back-is old at other = rw (idle-seen old.shelf (open_at old.sessions.items at).phase ∙ other) refl

pub committed-reading : (old : Machine) (at : ℕ) (held : Held) (number : ℕ) → (open_at old.sessions.items at).phase ≡ Reading held number →
    committed (state_of old) (session_at old at) (session_at old at).phase ≡ (Done, in_session (state_of old) (session_seen old.shelf (entered Idle (open_at old.sessions.items at))))
committed-reading old at held number is = ap (λ (p : Phase). committed (state_of old) (session_at old at) (phase_seen old.shelf p)) is

within-limit : (limit most count : ℕ) → None ≡ first (over limit most count) → (most < min count LAST_COUNT) → ⊥
within-limit limit most count none = at (nat_lt most (min count LAST_COUNT)) refl none
  where
    at : (b : Bool) → nat_lt most (min count LAST_COUNT) ≡ b → None ≡ first (when b (Full limit (min count LAST_COUNT))) → (most < min count LAST_COUNT) → ⊥
    at true e h lt = absurd cc
    at false e h lt = absurd (grind (arith, e, lt))

-- one more commit can be counted
pub commits-left : (commits : ℕ) → None ≡ first (over_commits (commits + 1)) → commits < MOST_COMMITS
commits-left commits none = ⊎_elim (λ (lt : commits < MOST_COMMITS). lt) (λ far. absurd (within-limit COMMITS_LIMIT MOST_COMMITS (commits + 1) none (grind (arith, far)))) (cases_lt commits MOST_COMMITS)

pub committed-writing : (old : Machine) (at : ℕ) (base : ℕ) (held : Held) → IsSound old → IsAt old.sessions.items at → (open_at old.sessions.items at).phase ≡ Writing base held → None ≡ first (commits_spent (state_of old)) →
    IsPending old (committed (state_of old) (session_at old at) (session_at old at).phase) held Done (Some at) old
committed-writing old at base held sound a is left = record {
  sound = sound;
  on = subst (λ (p : Phase). InPhase (IsOn old.shelf) p) is (on_at old at sound a.within).phase;
  ends = a.within;
  few = commits-left old.commits left;
  same = refl;
  committed = refl;
  step =
      ap (λ (p : Phase). committed (state_of old) (session_at old at) (phase_seen old.shelf p)) is
      ∙ unless-none (commits_spent (state_of old)) _ _ left
      ∙ ap (λ (t : State). (Done, record t { catalog = catalog_at old.shelf held; commits = old.commits + 1 }))
      (sym (session_set old.shelf old.held old.commits old.last_id old.sessions.items at (entered Idle (open_at old.sessions.items at)) a refl));
}

-- ---- SAVEPOINT

or-true : (b : Bool) → (b || true) ≡ true
or-true true = refl
or-true false = refl

or-false : (b : Bool) → (b || false) ≡ b
or-false true = refl
or-false false = refl

abbrev saving : Machine → List ℕ → OpenSession → Session
saving old name s =
    if is_idle (phase_seen old.shelf s.phase)
    then record (marked name (state_of old) (session_seen old.shelf s)) { phase = phase_seen old.shelf (Reading old.held old.commits); by_savepoint = true }
    else marked name (state_of old) (session_seen old.shelf s)

abbrev made : Machine → List ℕ → OpenSession → Session
made old name s = session_seen old.shelf (saved_session name (held_in old.held s.phase) (saved_in old.held old.commits s.phase) s)

saved-parts : (old : Machine) (name : List ℕ) (p : Phase) (id : ℕ) (b : Bool) (marks : List Mark) (cursors : List OpenCursor) (last : ℕ) →
    saving old name (record { id = id; phase = p; by_savepoint = b; marks = marks; cursors = cursors; last_cursor = last })
    ≡ made old name (record { id = id; phase = p; by_savepoint = b; marks = marks; cursors = cursors; last_cursor = last })
saved-parts old name Idle id b marks cursors last = rw (or-true b, map-append (mark_seen old.shelf) marks (record { name = name; held = old.held } ∷ [])) refl
saved-parts old name (Reading held number) id b marks cursors last = rw (or-false b, map-append (mark_seen old.shelf) marks (record { name = name; held = held } ∷ [])) refl
saved-parts old name (Writing base held) id b marks cursors last = rw (or-false b, map-append (mark_seen old.shelf) marks (record { name = name; held = held } ∷ [])) refl

pub saved-is : (old : Machine) (at : ℕ) (name : List ℕ) → None ≡ first (over_savepoints (length (open_at old.sessions.items at).marks + 1)) →
    saved name (state_of old) (session_at old at) ≡ (Done, in_session (state_of old) (made old name (open_at old.sessions.items at)))
saved-is old at name room =
    let s = open_at old.sessions.items at in
    let few : None ≡ first (over_savepoints (length (session_at old at).marks + 1)) = rw (length-map s.marks (mark_seen old.shelf)) room in
    unless-none (over_savepoints (length (session_at old at).marks + 1)) _ _ few
    ∙ ap (λ (z : Session). (Done, in_session (state_of old) z)) (saved-parts old name s.phase s.id s.by_savepoint s.marks s.cursors s.last_cursor)

held-on : (old : Machine) (p : Phase) → IsSound old → InPhase (IsOn old.shelf) p → IsOn old.shelf (held_in old.held p) × InPhase (IsOn old.shelf) (saved_in old.held old.commits p)
held-on old Idle sound on = (sound.committed, sound.committed)
held-on old (Reading held number) sound on = (on, on)
held-on old (Writing base held) sound on = (on, on)

pub saved-on : (old : Machine) (name : List ℕ) (s : OpenSession) → IsSound old → IsSoundSession old.shelf s → IsSoundSession old.shelf (saved_session name (held_in old.held s.phase) (saved_in old.held old.commits s.phase) s)
saved-on old name s sound on =
    let h = held-on old s.phase sound on.phase in
    record { phase = h.1; marks = each_more (λ (m : Mark). IsOn old.shelf m.held) s.marks (record { name = name; held = held_in old.held s.phase }) on.marks h.0; cursors = on.cursors }

-- ---- ROLLBACK TO, RELEASE

each_taken : {A : Type 0} (P : A → Type 0) (n : ℕ) (xs : List A) → AllByRecursion P xs → AllByRecursion P (take n xs)
each_taken P zero xs all = tt
each_taken P (suc n) [] all = tt
each_taken P (suc n) (x ∷ xs) all = (all.0, each_taken P n xs all.1)

map-taken : {A B : Type 0} (f : A → B) (n : ℕ) (xs : List A) → take n (map f xs) ≡ map f (take n xs)
map-taken f zero xs = refl
map-taken f (suc n) [] = refl
map-taken f (suc n) (x ∷ xs) = ap (λ l. f x ∷ l) (map-taken f n xs)

back-seen : (shelf : Versions) (held : Held) (p : Phase) → given_back (catalog_at shelf held) (phase_seen shelf p) ≡ phase_seen shelf (with_held held p)
back-seen shelf held Idle = refl
back-seen shelf held (Reading own number) = refl
back-seen shelf held (Writing base own) = refl

back-on : (shelf : Versions) (held : Held) (p : Phase) → IsOn shelf held → InPhase (IsOn shelf) (with_held held p)
back-on shelf held Idle on = tt
back-on shelf held (Reading own number) on = on
back-on shelf held (Writing base own) on = on

pub gone_back-on : (shelf : Versions) (place : ℕ) (s : OpenSession) → place < length s.marks → IsSoundSession shelf s → IsSoundSession shelf (gone_back place s)
gone_back-on shelf place s lt on =
    let P : Mark → Type 0 = λ x. IsOn shelf x.held in
    record { phase = back-on shelf (mark_at s.marks place).held s.phase (each_at P s.marks place no_mark on.marks lt); marks = each_taken P (suc place) s.marks on.marks; cursors = tt }

pub rolled_to-is : (old : Machine) (at : ℕ) (name : List ℕ) (place : ℕ) → IsMark name (open_at old.sessions.items at).marks place →
    rolled_to name (state_of old) (session_at old at) (newest_mark name (session_at old at).marks) ≡ (Done, in_session (state_of old) (session_seen old.shelf (gone_back place (open_at old.sessions.items at))))
rolled_to-is old at name place found =
    ap (λ o. rolled_to name (state_of old) (session_at old at) o) (found.is old.shelf)
    ∙ ap₂ (λ p marks. (Done, in_session (state_of old) (record (session_at old at) { phase = p; marks = marks; cursors = [] })))
    (back-seen old.shelf (mark_at (open_at old.sessions.items at).marks place).held (open_at old.sessions.items at).phase) (found.upto old.shelf)

pub cut-is : (old : Machine) (at : ℕ) (place : ℕ) → ((place == 0) && (open_at old.sessions.items at).by_savepoint) ≡ false →
    released_at place (state_of old) (session_at old at) ≡ (Done, in_session (state_of old) (session_seen old.shelf (cut_to place (open_at old.sessions.items at))))
cut-is old at place other = rw (other, map-taken (mark_seen old.shelf) place (open_at old.sessions.items at).marks) refl

pub cut-on : (shelf : Versions) (place : ℕ) (s : OpenSession) → IsSoundSession shelf s → IsSoundSession shelf (cut_to place s)
cut-on shelf place s on = record { phase = on.phase; marks = each_taken (λ (m : Mark). IsOn shelf m.held) place s.marks on.marks; cursors = on.cursors }

pub released-is : (old : Machine) (at : ℕ) (name : List ℕ) (place : ℕ) → IsMark name (open_at old.sessions.items at).marks place →
    released name (state_of old) (session_at old at) (newest_mark name (session_at old at).marks) ≡ released_at place (state_of old) (session_at old at)
released-is old at name place found =
    let marks = (open_at old.sessions.items at).marks in
    let size : length (map (mark_seen old.shelf) (take place marks)) ≡ place = length-map (take place marks) (mark_seen old.shelf) ∙ length-take-le place marks (omega (arith, found.within)) in
    ap (λ o. released name (state_of old) (session_at old at) o) (found.is old.shelf)
    ∙ ap (λ ms. if (length ms == 0) && (session_at old at).by_savepoint
    then committed (state_of old) (session_at old at) (session_at old at).phase
    else (Done, in_session (state_of old) (record (session_at old at) { marks = ms }))) (found.before old.shelf)
    ∙ ap₂ (λ n ms. if (n == 0) && (session_at old at).by_savepoint
    then committed (state_of old) (session_at old at) (session_at old at).phase
    else (Done, in_session (state_of old) (record (session_at old at) { marks = ms }))) size (sym (map-taken (mark_seen old.shelf) place marks))

-- ---- sessions

pub map-removed : {A B : Type 0} (f : A → B) (xs : List A) (i : ℕ) → map f (remove xs i) ≡ remove (map f xs) i
map-removed f [] zero = refl
map-removed f [] (suc i) = refl
map-removed f (x ∷ xs) zero = refl
map-removed f (x ∷ xs) (suc i) = ap (λ l. f x ∷ l) (map-removed f xs i)

pub closes : (old : Machine) (at : ℕ) (new : Machine) → IsSound old → IsAt old.sessions.items at →
    new.shelf ≡ old.shelf → new.held ≡ old.held → new.commits ≡ old.commits → new.last_id ≡ old.last_id → new.sessions.items ≡ remove old.sessions.items at → Takes old (closed (state_of old) (session_at old at)) Done new
closes old at new sound a shelf held commits last_id same = record {
  sound = rw (shelf, held, same) (record { committed = sound.committed; in_sessions = each_removed (IsSoundSession old.shelf) old.sessions.items at sound.in_sessions });
  step = ap (λ sessions. (Done, record (state_of old) { sessions = sessions })) (a.gone old.shelf ∙ sym (map-removed (session_seen old.shelf) old.sessions.items at)) ∙ rw (shelf, held, commits, last_id, same) refl;
  count = commits;
  committed = rw (shelf, held) refl;
}

pub opens : (old : Machine) (new : Machine) → IsSound old → None ≡ first (over_sessions (length old.sessions.items + 1) ++ over_session_ids (old.last_id + 1)) →
    new.shelf ≡ old.shelf → new.held ≡ old.held → new.commits ≡ old.commits → new.last_id ≡ old.last_id + 1 → new.sessions.items ≡ old.sessions.items ++ session_new (old.last_id + 1) ∷ [] →
    Takes old (opened (state_of old)) (Opened (old.last_id + 1)) new
opens old new sound room shelf held commits last_id same =
    let few : None ≡ first (over_sessions (length (sessions_seen old.shelf old.sessions.items) + 1) ++ over_session_ids (old.last_id + 1)) = rw (length-map old.sessions.items (session_seen old.shelf)) room in
    record {
      sound = rw (shelf, held, same) (record { committed = sound.committed; in_sessions = each_more (IsSoundSession old.shelf) old.sessions.items (session_new (old.last_id + 1)) sound.in_sessions (record { phase = tt; marks = tt; cursors = tt }) });
      step = unless-none (over_sessions (length (sessions_seen old.shelf old.sessions.items) + 1) ++ over_session_ids (old.last_id + 1)) _ _ few
          ∙ ap (λ sessions. (Opened (old.last_id + 1), record (state_of old) { last_id = old.last_id + 1; sessions = sessions })) (sym (map-append (session_seen old.shelf) old.sessions.items (session_new (old.last_id + 1) ∷ [])))
          ∙ rw (shelf, held, commits, last_id, same) refl;
      count = commits;
      committed = rw (shelf, held) refl;
    }

pub wants : (old new : Machine) → IsSound old → new.shelf ≡ old.shelf → new.held ≡ old.held → new.commits ≡ old.commits → new.last_id ≡ old.last_id → new.sessions.items ≡ old.sessions.items →
    Takes old (Refused WantOfMemory, state_of old) (Refused WantOfMemory) new
wants old new sound shelf held commits last_id same = record {
  sound = rw (shelf, held, same) sound;
  step = rw (shelf, held, commits, last_id, same) refl;
  count = commits;
  committed = rw (shelf, held) refl;
}

-- the place of a mark, found in a session that was read
pub found_at : (sessions : List OpenSession) (at : ℕ) (s : OpenSession) (name : List ℕ) (marks : List Mark) (place : ℕ) → at < length sessions → s ≡ get_or sessions at s → marks ≡ s.marks → IsMark name marks place → IsMark name (open_at sessions at).marks place
found_at sessions at s name marks place lt here same found =
    subst (λ (z : OpenSession). IsMark name z.marks place) (sym (session-is sessions at s lt here)) (subst (λ (ms : List Mark). IsMark name ms place) same found)
