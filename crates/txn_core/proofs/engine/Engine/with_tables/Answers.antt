use Rattle.std.proofs.Common.{sym, ap, subst}
use Rattle.txn_core.proofs.StartLaws.{first_valid}
use Rattle.txn_sessions.specs.Seen.{Versions, catalog_at, state_of}
use Rattle.version_shelf.specs.OnShelf.{shown}
use Rattle.version_shelf.specs.Records.{HoldsRecords}
use Rattle.version_shelf.specs.declared.held.Held.{Held}
use Rattle.txn_core.proofs.engine.Engine.with_tables.Goals as goal

pub invariant_of-result : goal.invariant_of-result
invariant_of-result g c = record {
  sound = c.new.ensures.sound;
  valid = first_valid (catalog_at c.args.shelf c.args.held) (state_of c.new.result) c.requires.valid c.new.ensures.state;
  told_all = c.requires.ended;
  holds = λ told.
      subst (λ (s : Versions). HoldsRecords (g.K.Keeper.tables c.args.keeper) (shown s c.new.result.held.places)) (sym c.new.ensures.shelf)
      (subst (λ (h : Held). HoldsRecords (g.K.Keeper.tables c.args.keeper) (shown c.args.shelf h.places)) (sym c.new.ensures.held) (c.requires.holds told));
}
