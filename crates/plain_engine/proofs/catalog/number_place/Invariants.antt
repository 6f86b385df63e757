use Rattle.std.proofs.Common.{◌≡◌, ◌++◌, take, drop}
use Rattle.row_model.specs.declared.row.Named.{Named}
use Rattle.row_model.specs.Change.{add_table}
use Rattle.plain_engine.proofs.catalog.number_place.Given as goal

abbrev pub invariant-loop-at : goal.invariant-loop-at
invariant-loop-at l = (new : Named) → new.number ≡ l.number → add_table new l.tables ≡ take l.at l.tables ++ add_table new (drop l.at l.tables)
