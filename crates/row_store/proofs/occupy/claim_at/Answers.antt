use Rattle.std.proofs.Common.{◌≡◌, Some, true, false}
use Rattle.slot_alloc.specs.Places.{has_chunk, is_used, partition_of_chunk}
use Rattle.row_store.specs.StoredRows.{PlacesAre}
use Rattle.row_store.specs.inner.Views.{rows_of}
use Rattle.row_store.proofs.OccupyLaws.{free-unused, alike-chunk, alike-values}
use Rattle.row_store.proofs.TieLaws.{claimed-tied, claimed-row, same_rows}
use Rattle.row_store.proofs.ViewLaws.{are-places, new-slot}
use Rattle.row_store.proofs.PlaceLaws.{values_now}
use Rattle.row_store.proofs.occupy.claim_at.Goals as goal

are : (c : goal.After-claim-1) → PlacesAre c.args.places.now.size (rows_of c.args.parts.now c.args.places.now c.args.index.now) c.args.places.now
are c = are-places c.args.parts.now c.args.places.now c.args.index.now c.requires.tied c.known-2.ensures.rising c.known.ensures

unused : (c : goal.After-claim-1) → is_used c.args.places.now c.args.place.now.chunk c.args.place.now.slot ≡ false
unused c = free-unused c.args.places.now.size (rows_of c.args.parts.now c.args.places.now c.args.index.now) c.args.places.now (are c) c.args.place.now.chunk c.args.place.now.slot c.args.partition.now c.requires.alike c.requires.free

fits : (c : goal.After-claim-1) → has_chunk c.args.places.now c.args.place.now.chunk ≡ true → partition_of_chunk c.args.places.now c.args.place.now.chunk ≡ Some c.args.partition.now
fits c = alike-chunk c.args.places.now.size (rows_of c.args.parts.now c.args.places.now c.args.index.now) c.args.places.now (are c) c.args.place.now.chunk c.args.place.now.slot c.args.partition.now c.requires.alike

pub returns-clause-tied : goal.returns-clause-tied
returns-clause-tied c =
    let new = new-slot c.args.parts.now c.args.places.now c.args.index.now c.requires.tied c.known-2.ensures.rising c.args.place.now.rowid c.requires.fresh in
    claimed-tied c.args.parts.now c.args.places.now c.occupy.new.self c.args.index.now c.args.place.now c.args.partition.now c.requires.tied c.known.ensures (fits c) (unused c) c.in_ok-occupy.ensures.used new

pub returns-clause-rows : goal.returns-clause-rows
returns-clause-rows c =
    same_rows c.args.parts.now c.args.places.now c.occupy.new.self c.args.index.now
    (claimed-row c.args.parts.now c.args.places.now c.occupy.new.self c.args.index.now c.args.place.now c.args.partition.now c.requires.tied c.known.ensures (fits c) (unused c) c.in_ok-occupy.ensures.used)

pub returns-clause-values : goal.returns-clause-values
returns-clause-values c = values_now c.args.places.now c.occupy.new.self c.args.place.now.chunk c.args.place.now.slot c.args.partition.now c.in_ok-occupy.ensures.used

pub occupy-requires-clause-free : goal.occupy-requires-clause-free
occupy-requires-clause-free c =
    let all = are-places c.args.parts.now c.args.places.now c.args.index.now c.requires.tied c.known-2.ensures.rising c.known.ensures in
    free-unused c.args.places.now.size (rows_of c.args.parts.now c.args.places.now c.args.index.now) c.args.places.now all c.args.place.now.chunk c.args.place.now.slot c.args.partition.now c.requires.alike c.requires.free

pub occupy-requires-clause-values : goal.occupy-requires-clause-values
occupy-requires-clause-values c =
    let all = are-places c.args.parts.now c.args.places.now c.args.index.now c.requires.tied c.known-2.ensures.rising c.known.ensures in
    alike-values c.args.places.now.size (rows_of c.args.parts.now c.args.places.now c.args.index.now) c.args.places.now all c.args.place.now.chunk c.args.place.now.slot c.args.partition.now c.requires.alike c.known.ensures
