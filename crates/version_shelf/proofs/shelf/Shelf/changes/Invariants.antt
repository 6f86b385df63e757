use Rattle.shadow_keeper.specs.Keeping.{AreShort}
use Rattle.version_shelf.specs.OnShelf.{shown}
use Rattle.version_shelf.specs.Records.{TurnsAll}
use Rattle.version_shelf.proofs.RecordLaws.{mixed}
use Rattle.version_shelf.proofs.shelf.Shelf.changes.Given as goal

abbrev pub invariant-loop-at : goal.invariant-loop-at
invariant-loop-at l = record {
  turns : TurnsAll (shown l.self l.older.places) (mixed (shown l.self l.older.places) (shown l.self l.newer.places) l.at) l.changes.items;
  short : AreShort l.changes.items;
}
