-- A machine stays sound where a catalog becomes the committed one.
use Rattle.std.proofs.Common.{◌<◌, ℕ, List, length, Option, Some, None}
use Rattle.std.specs.Prelude.{IfSome}
use Rattle.txn_sessions.specs.Seen.{Versions}
use Rattle.txn_sessions.specs.Sessions.{entered, open_at, session_new}
use Rattle.txn_sessions.specs.Sound.{InAll, IsOn, IsOrigin, IsSoundSession}
use Rattle.txn_sessions.specs.Turns.{ended_at}
use Rattle.txn_sessions.specs.declared.session.OpenSession.{OpenSession}
use Rattle.txn_sessions.specs.declared.session.Phase.TheVariants.{Idle}
use Rattle.txn_sessions.proofs.SessionLaws.{entered-on}
use Rattle.txn_sessions.proofs.TurnLaws.{each_at, each_set}
use Rattle.version_shelf.specs.declared.held.Held.{Held}

pub ended_sound : (shelf : Versions) (held next : Held) (sessions : List OpenSession) (ending : Option ℕ) → InAll (IsOn shelf) (IsOrigin shelf) held sessions → IsOn shelf next → IfSome ending (λ at. at < length sessions) →
    InAll (IsOn shelf) (IsOrigin shelf) next (ended_at ending sessions)
ended_sound shelf held next sessions None sound on within = record { committed = on; in_sessions = sound.in_sessions }
ended_sound shelf held next sessions (Some at) sound on within = record {
  committed = on;
  in_sessions = each_set (IsSoundSession shelf) sessions at (entered Idle (open_at sessions at)) sound.in_sessions
      (entered-on shelf (open_at sessions at) (each_at (IsSoundSession shelf) sessions at (session_new 0) sound.in_sessions within));
}
