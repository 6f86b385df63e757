-- The shelf changes, and nothing that is seen does.
use Rattle.std.proofs.Common.{◌≡◌, List, [], ◌∷◌, map, refl, ap, ap₂, ◌∙◌}
use Rattle.std.specs.Prelude.{⊤}
use Rattle.std.specs.List.{AllByRecursion}
use Rattle.row_model.specs.declared.state.Phase.TheVariants as phases
use Rattle.snapshot_cursor.specs.Left.{rows_left}
use Rattle.version_shelf.specs.declared.held.Held.{Held}
use Rattle.version_shelf.specs.Numbers.{catalog_of, under}
use Rattle.version_shelf.specs.OnShelf.{Keeps}
use Rattle.version_shelf.proofs.PlaceLaws.{on-kept, shown-kept}
use Rattle.txn_sessions.specs.declared.machine.Machine.{Machine}
use Rattle.txn_sessions.specs.declared.session.Mark.{Mark}
use Rattle.txn_sessions.specs.declared.session.OpenCursor.{OpenCursor}
use Rattle.txn_sessions.specs.declared.session.OpenSession.{OpenSession}
use Rattle.txn_sessions.specs.declared.session.Origin.{Origin}
use Rattle.txn_sessions.specs.declared.session.Origin.TheVariants.{Kept, Table}
use Rattle.txn_sessions.specs.declared.session.Phase.{Phase}
use Rattle.txn_sessions.specs.declared.session.Phase.TheVariants.{Idle, Reading, Writing}
use Rattle.txn_sessions.specs.Moves.{Moved, Stays}
use Rattle.txn_sessions.specs.Seen.{Versions, cursor_seen, mark_seen, phase_seen, rows_in, rows_over, session_seen, sessions_seen}
use Rattle.txn_sessions.specs.Sound.{InAll, InPhase, InSession, IsOn, IsOrigin, IsSound, IsSoundSession}

-- a catalog goes on showing the same where the shelf keeps what stands on it
pub stays-kept : (old new : Versions) (held : Held) → Keeps old new → IsOn old held → Stays old new held
stays-kept old new held kept on = record { on = on-kept old new held.places kept on; shows = shown-kept old new held.places kept on }

-- so it is with the catalog of an origin, and it was sound
abbrev pub OriginStays : Versions → Versions → Origin → Type 0
OriginStays old new Kept = ⊤
OriginStays old new (Table held number plan) = Stays old new held × IsOrigin old (Table held number plan)

module _ (old new : Versions) where
  phase-stays : (p : Phase) → InPhase (Stays old new) p → InPhase (IsOn new) p × (phase_seen new p ≡ phase_seen old p)
  phase-stays Idle on = (tt, refl)
  phase-stays (Reading held number) on = (on.on, ap (λ os. phases.Reading (catalog_of os) number) on.shows)
  phase-stays (Writing base held) on = (on.on, ap (λ os. phases.Writing base (catalog_of os)) on.shows)

  marks-stay : (ms : List Mark) → AllByRecursion (λ m. Stays old new m.held) ms → AllByRecursion (λ m. IsOn new m.held) ms × (map (mark_seen new) ms ≡ map (mark_seen old) ms)
  marks-stay [] on = (tt, refl)
  marks-stay (m ∷ ms) on =
      let rest = marks-stay ms on.1 in
      ((on.0.on, rest.0), ap₂ (λ os l. record { name = m.name; catalog = catalog_of os } ∷ l) on.0.shows rest.1)

  origin-stays : (o : Origin) → OriginStays old new o → IsOrigin new o × (rows_over new o ≡ rows_over old o)
  origin-stays Kept on = (tt, refl)
  origin-stays (Table held number plan) on = (
    record {
      on = on.0.on;
      low = on.1.low;
      high = on.1.high;
      version = on.1.version;
      there = ap (λ (os : Versions). under number os) on.0.shows ∙ on.1.there;
      planned = on.1.planned;
    },
    ap (λ (os : Versions). rows_in plan (under number os)) on.0.shows,
  )

  cursors-stay : (cs : List OpenCursor) → AllByRecursion (λ c. OriginStays old new c.origin) cs → AllByRecursion (λ c. IsOrigin new c.origin) cs × (map (cursor_seen new) cs ≡ map (cursor_seen old) cs)
  cursors-stay [] on = (tt, refl)
  cursors-stay (c ∷ cs) on =
      let one = origin-stays c.origin on.0 in
      let rest = cursors-stay cs on.1 in
      ((one.0, rest.0), ap₂ (λ rows l. record { number = c.number; rows = rows_left c.cursor rows } ∷ l) one.1 rest.1)

  session-stays : (s : OpenSession) → InSession (Stays old new) (OriginStays old new) s → IsSoundSession new s × (session_seen new s ≡ session_seen old s)
  session-stays s on =
      let p = phase-stays s.phase on.phase in
      let m = marks-stay s.marks on.marks in
      let c = cursors-stay s.cursors on.cursors in (
        record { phase = p.0; marks = m.0; cursors = c.0 },
        ap (λ x. record (session_seen new s) { phase = x }) p.1 ∙ ap₂ (λ x y. record (session_seen old s) { marks = x; cursors = y }) m.1 c.1,
      )

  sessions-stay : (ss : List OpenSession) → AllByRecursion (InSession (Stays old new) (OriginStays old new)) ss → AllByRecursion (IsSoundSession new) ss × (sessions_seen new ss ≡ sessions_seen old ss)
  sessions-stay [] on = (tt, refl)
  sessions-stay (s ∷ ss) on =
      let one = session-stays s on.0 in
      let rest = sessions-stay ss on.1 in
      ((one.0, rest.0), ap₂ ◌∷◌ one.1 rest.1)

-- ---- two facts of each catalog that is named give a third

module _ (P Q R : Held → Type 0) (A B C : Origin → Type 0) (f : (h : Held) → P h → Q h → R h) (g : (o : Origin) → A o → B o → C o) where
  phase-both : (p : Phase) → InPhase P p → InPhase Q p → InPhase R p
  phase-both Idle a b = tt
  phase-both (Reading held number) a b = f held a b
  phase-both (Writing base held) a b = f held a b

  marks-both : (ms : List Mark) → AllByRecursion (λ (m : Mark). P m.held) ms → AllByRecursion (λ (m : Mark). Q m.held) ms → AllByRecursion (λ (m : Mark). R m.held) ms
  marks-both [] a b = tt
  marks-both (m ∷ ms) a b = (f m.held a.0 b.0, marks-both ms a.1 b.1)

  cursors-both : (cs : List OpenCursor) → AllByRecursion (λ (c : OpenCursor). A c.origin) cs → AllByRecursion (λ (c : OpenCursor). B c.origin) cs → AllByRecursion (λ (c : OpenCursor). C c.origin) cs
  cursors-both [] a b = tt
  cursors-both (c ∷ cs) a b = (g c.origin a.0 b.0, cursors-both cs a.1 b.1)

  sessions-both : (ss : List OpenSession) → AllByRecursion (InSession P A) ss → AllByRecursion (InSession Q B) ss → AllByRecursion (InSession R C) ss
  sessions-both [] a b = tt
  sessions-both (s ∷ ss) a b = (record { phase = phase-both s.phase a.0.phase b.0.phase; marks = marks-both s.marks a.0.marks b.0.marks; cursors = cursors-both s.cursors a.0.cursors b.0.cursors }, sessions-both ss a.1 b.1)

  pub all-both : (held : Held) (ss : List OpenSession) → InAll P A held ss → InAll Q B held ss → InAll R C held ss
  all-both held ss a b = record { committed = f held a.committed b.committed; in_sessions = sessions-both ss a.in_sessions b.in_sessions }

-- ---- the machine

pub moves : (old new : Machine) → InAll (Stays old.shelf new.shelf) (OriginStays old.shelf new.shelf) old.held old.sessions.items → new.held ≡ old.held → new.commits ≡ old.commits → new.last_id ≡ old.last_id →
    new.sessions.items ≡ old.sessions.items → Moved old new
moves old new all held commits last_id sessions =
    let rest = sessions-stay old.shelf new.shelf old.sessions.items all.in_sessions in
    record {
      sound = rw (held, sessions) (record { committed = all.committed.on; in_sessions = rest.0 });
      same = rw (held, commits, last_id, sessions) (ap₂ (λ os seen. record { catalog = catalog_of os; commits = old.commits; last_id = old.last_id; sessions = seen }) all.committed.shows rest.1);
      committed = rw held all.committed.shows;
      held = held;
      sessions = sessions;
    }

origin-kept : (old new : Versions) (o : Origin) → Keeps old new → IsOrigin old o → OriginStays old new o
origin-kept old new Kept kept on = tt
origin-kept old new (Table held number plan) kept on = (stays-kept old new held kept on.on, on)

pub keeps-moves : (old new : Machine) → IsSound old → Keeps old.shelf new.shelf → new.held ≡ old.held → new.commits ≡ old.commits → new.last_id ≡ old.last_id → new.sessions.items ≡ old.sessions.items → Moved old new
keeps-moves old new sound kept held commits last_id sessions =
    moves old new
    (all-both (IsOn old.shelf) (IsOn old.shelf) (Stays old.shelf new.shelf) (IsOrigin old.shelf) (IsOrigin old.shelf) (OriginStays old.shelf new.shelf)
    (λ h on again. stays-kept old.shelf new.shelf h kept on) (λ o on again. origin-kept old.shelf new.shelf o kept on) old.held old.sessions.items sound sound)
    held commits last_id sessions

pub moved-none : (m : Machine) → IsSound m → Moved m m
moved-none m sound = record { sound = sound; same = refl; committed = refl; held = refl; sessions = refl }

pub moved-on : (a b c : Machine) → Moved a b → Moved b c → Moved a c
moved-on a b c x y = record { sound = y.sound; same = y.same ∙ x.same; committed = y.committed ∙ x.committed; held = y.held ∙ x.held; sessions = y.sessions ∙ x.sessions }
