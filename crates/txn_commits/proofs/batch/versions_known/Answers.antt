use Rattle.std.proofs.Common.{rules, ◌≡◌, ℕ, ◌+◌, ◌-◌, ◌≤◌, length, None, arith, subst}
use Rattle.std.proofs.lemmas.List.{length-map}
use Rattle.std.specs.Prelude.{slice_index_or}
use Rattle.table_version.specs.Versions.{VersionState}
use Rattle.txn_commits.specs.Standing.{IsPlacedIn}
use Rattle.txn_commits.proofs.StandLaws.{all_placed, one_more}
use Rattle.version_shelf.specs.OnShelf.{at_place, shown}
use Rattle.txn_commits.proofs.batch.versions_known.Goals as goal

pub loop-at-preserved : goal.loop-at-preserved
loop-at-preserved c =
    let P : ℕ → Type 0 = λ n. IsPlacedIn (slice_index_or (shown c.args.shelf.now c.args.held.now.places) n None) in
    let same : c.loop-at.at + 1 - 1 ≡ c.loop-at.at = omega arith in
    one_more P c.loop-at.at c.loop-at.invariant (subst P same c.number_known.ensures)

pub returns : goal.returns
returns c =
    let wide : length c.args.held.now.places ≡ 64 = search rules in
    let over : 64 ≤ c.loop-at.at = search (rules, arith) in
    all_placed (shown c.args.shelf.now c.args.held.now.places)
    (λ n within. c.loop-at.invariant n (omega (arith, within, wide, over, length-map c.args.held.now.places (at_place {V = VersionState} c.args.shelf.now))))
