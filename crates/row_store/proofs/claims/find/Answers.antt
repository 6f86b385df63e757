use Rattle.std.proofs.Common.{ap, sym, ◌∙◌, rules, SFits, w64, None, arith}
use Rattle.std.proofs.lemmas.Int.{to_z-of_z}
use Rattle.row_index.specs.Entries.{place_of}
use Rattle.row_store.specs.StoredRows.{row_of}
use Rattle.row_store.specs.Touches.{is_touched_row}
use Rattle.row_store.specs.inner.Views.{AreTied}
use Rattle.row_store.proofs.FoundLaws.{not-found, found, found-within, found-positive}
use Rattle.row_store.proofs.claims.find.Goals as goal

pub returns-in_default-clause-found : goal.returns-in_default-clause-found
returns-in_default-clause-found c =
    let fits : SFits w64 c.args.rowid.now = search rules in
    let same = to_z-of_z w64 c.args.rowid.now fits in
    let tied : AreTied c.args.rows.now.parts c.settle.new.places c.settle.new.index None = rw c.in_ok-settle.ensures.settled at c.settle.ensures.tied in
    let none = ap (λ i. place_of i c.settle.new.index) (sym same) ∙ sym c.place.ensures ∙ c.in_default.is in
    ap (row_of c.args.rowid.now) (sym c.settle.ensures.rows) ∙ not-found c.args.rows.now.parts c.settle.new.places c.settle.new.index tied c.known.ensures.rising c.args.rowid.now none

pub touch-requires-clause-chunk : goal.touch-requires-clause-chunk
touch-requires-clause-chunk c =
    let fits : SFits w64 c.args.rowid.now = search rules in
    let same = to_z-of_z w64 c.args.rowid.now fits in
    let tied : AreTied c.args.rows.now.parts c.settle.new.places c.settle.new.index None = rw c.in_ok-settle.ensures.settled at c.settle.ensures.tied in
    let is = ap (λ i. place_of i c.settle.new.index) (sym same) ∙ sym c.place.ensures ∙ c.in-Some.is in
    let there = found c.args.rows.now.parts c.settle.new.places c.settle.new.index tied c.known.ensures.rising c.args.rowid.now c.in-Some.chunk c.in-Some.slot is in
    found-positive c.args.rows.now.parts c.settle.new.places c.settle.new.index tied c.known.ensures.rising c.known-2.ensures c.args.rowid.now c.in-Some.chunk c.in-Some.slot there

pub touch-requires-clause-slot : goal.touch-requires-clause-slot
touch-requires-clause-slot c =
    let fits : SFits w64 c.args.rowid.now = search rules in
    let same = to_z-of_z w64 c.args.rowid.now fits in
    let tied : AreTied c.args.rows.now.parts c.settle.new.places c.settle.new.index None = rw c.in_ok-settle.ensures.settled at c.settle.ensures.tied in
    let is = ap (λ i. place_of i c.settle.new.index) (sym same) ∙ sym c.place.ensures ∙ c.in-Some.is in
    let there = found c.args.rows.now.parts c.settle.new.places c.settle.new.index tied c.known.ensures.rising c.args.rowid.now c.in-Some.chunk c.in-Some.slot is in
    let within = found-within c.args.rows.now.parts c.settle.new.places c.settle.new.index tied c.known.ensures.rising c.known-2.ensures c.args.rowid.now c.in-Some.chunk c.in-Some.slot there in
    let one = c.requires.size in
    let two = c.settle.ensures.size in
    omega (arith, within, one, two)

pub returns-clause-found : goal.returns-clause-found
returns-clause-found c =
    let fits : SFits w64 c.args.rowid.now = search rules in
    let same = to_z-of_z w64 c.args.rowid.now fits in
    let tied : AreTied c.args.rows.now.parts c.settle.new.places c.settle.new.index None = rw c.in_ok-settle.ensures.settled at c.settle.ensures.tied in
    let is = ap (λ i. place_of i c.settle.new.index) (sym same) ∙ sym c.place.ensures ∙ c.in-Some.is in
    let there = found c.args.rows.now.parts c.settle.new.places c.settle.new.index tied c.known.ensures.rising c.args.rowid.now c.in-Some.chunk c.in-Some.slot is in
    record {
      own = same;
      used = there.used;
      seen = there.seen;
      same = there.same;
      settled = c.in_ok-settle.ensures.settled;
      row = ap (is_touched_row c.touch.new.self) (sym same) ∙ c.in_ok-touch.ensures.row;
      spot = c.in_ok-touch.ensures.place;
    }
