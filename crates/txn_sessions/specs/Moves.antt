-- The shelf changes, and nothing that is seen does.
use Rattle.std.specs.Prelude.{◌≡◌}
use Rattle.version_shelf.specs.declared.held.Held.{Held}
use Rattle.version_shelf.specs.OnShelf.{shown}
use Rattle.txn_sessions.specs.declared.machine.Machine.{Machine}
use Rattle.txn_sessions.specs.Seen.{Versions, state_of}
use Rattle.txn_sessions.specs.Sound.{IsOn, IsSound}

-- a catalog is on the new shelf, and shows what it showed
pub record Stays (old new : Versions) (held : Held) : Type 0 where
  pub on : IsOn new held
  pub shows : shown new held.places ≡ shown old held.places

pub record Moved (old new : Machine) : Type 0 where
  pub sound : IsSound new
  pub same : state_of new ≡ state_of old
  pub committed : shown new.shelf new.held.places ≡ shown old.shelf old.held.places
  pub held : new.held ≡ old.held
  pub sessions : new.sessions.items ≡ old.sessions.items
