use Rattle.std.proofs.Common.{◌≡◌, refl, rules, SFits, w64, Some, true, false}
use Rattle.std.proofs.lemmas.Int.{to_z-of_z}
use Rattle.slot_alloc.specs.Changes.{UsesAlso}
use Rattle.slot_alloc.specs.Places.{has_chunk, is_used, partition_of_chunk}
use Rattle.row_store.specs.declared.place.RowPlace.{RowPlace}
use Rattle.row_store.proofs.TieLaws.{claimed-tied, claimed-row, same_rows}
use Rattle.row_store.proofs.ViewLaws.{new-slot}
use Rattle.row_store.proofs.PlaceLaws.{fitting, free_place, values_now, within_now, positive_now}
use Rattle.row_store.proofs.claims.claim_place.Goals as goal

abbrev claim : goal.After-place-1 → RowPlace
claim c = record { rowid = c.args.rowid.now; chunk = c.numbers-chunk.result.0; slot = c.numbers-chunk.result.1 }

also : (c : goal.After-place-1) → UsesAlso c.args.places.now c.numbers-chunk.result.0 c.numbers-chunk.result.1 c.args.partition.now c.take.new.self
also c = rw (c.numbers-chunk.ensures.chunk, c.numbers-chunk.ensures.slot) (c.in_ok-take.ensures {u = tt}).used

fits : (c : goal.After-place-1) → has_chunk c.args.places.now c.numbers-chunk.result.0 ≡ true → partition_of_chunk c.args.places.now c.numbers-chunk.result.0 ≡ Some c.args.partition.now
fits c = rw c.numbers-chunk.ensures.chunk (fitting c.args.places.now c.args.partition.now c.in_ok-take.field-0 (c.in_ok-take.ensures {u = tt}).place)

unused : (c : goal.After-place-1) → is_used c.args.places.now c.numbers-chunk.result.0 c.numbers-chunk.result.1 ≡ false
unused c = rw (c.numbers-chunk.ensures.chunk, c.numbers-chunk.ensures.slot) (free_place c.args.places.now c.args.partition.now c.in_ok-take.field-0 (c.in_ok-take.ensures {u = tt}).place)

pub returns-clause-tied : goal.returns-clause-tied
returns-clause-tied c =
    let fits_z : SFits w64 c.args.rowid.now = search rules in
    let same = to_z-of_z w64 c.args.rowid.now fits_z in
    let new = new-slot c.args.parts.now c.args.places.now c.args.index.now c.requires.tied c.known-2.ensures.rising c.args.rowid.now c.requires.fresh in
    rw same (claimed-tied c.args.parts.now c.args.places.now c.take.new.self c.args.index.now (claim c) c.args.partition.now c.requires.tied c.known.ensures (fits c) (unused c) (also c) new)

pub returns-clause-rows : goal.returns-clause-rows
returns-clause-rows c =
    same_rows c.args.parts.now c.args.places.now c.take.new.self c.args.index.now
    (claimed-row c.args.parts.now c.args.places.now c.take.new.self c.args.index.now (claim c) c.args.partition.now c.requires.tied c.known.ensures (fits c) (unused c) (also c))

pub returns-clause-size : goal.returns-clause-size
returns-clause-size c = (also c).size

pub returns-clause-claimed : goal.returns-clause-claimed
returns-clause-claimed c =
    let fits_z : SFits w64 c.args.rowid.now = search rules in
    let same = to_z-of_z w64 c.args.rowid.now fits_z in
    let old = c.args.places.now in
    let new = c.take.new.self in
    record {
      place = c.in_ok-take.field-0;
      fits = (c.in_ok-take.ensures {u = tt}).place;
      chunk = c.numbers-chunk.ensures.chunk;
      slot = c.numbers-chunk.ensures.slot;
      own = same;
      values = values_now old new c.numbers-chunk.result.0 c.numbers-chunk.result.1 c.args.partition.now (also c);
      within = within_now old new c.numbers-chunk.result.0 c.numbers-chunk.result.1 c.args.partition.now (also c) c.known-3.ensures;
      positive = positive_now old new c.numbers-chunk.result.0 c.numbers-chunk.result.1 c.args.partition.now (also c) c.known-3.ensures;
      claimed = refl;
    }
