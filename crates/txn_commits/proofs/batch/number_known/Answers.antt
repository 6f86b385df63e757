use Rattle.std.proofs.Common.{rules, ◌≡◌, ◌-◌, Some, None}
use Rattle.std.specs.Prelude.{slice_index_or}
use Rattle.txn_commits.proofs.StandLaws.{placed_there}
use Rattle.version_shelf.specs.OnShelf.{at_place}
use Rattle.txn_commits.proofs.batch.number_known.Goals as goal

pub returns-in-Some : goal.returns-in-Some
returns-in-Some c =
    let is : at_place c.args.shelf.now (slice_index_or c.args.held.now.places (c.args.number - 1) None) ≡ Some c.in-Some.version.now = search rules in
    placed_there c.args.shelf.now c.args.held.now.places (c.args.number - 1) c.in-Some.version.now is c.known.ensures
