use Rattle.std.proofs.Common.{ap, sym, ◌∙◌, Some, None, subst}
use Rattle.std.specs.Option.{option_copied}
use Rattle.std.proofs.lemmas.Option.{IfSome_then}
use Rattle.row_index.specs.Entries.{entry_of}
use Rattle.row_store.specs.StoredRows.{row_of, row_with_id, PlacesAre}
use Rattle.row_store.specs.inner.Views.{AreTied, rows_of}
use Rattle.row_store.specs.Touches.{is_touched_row}
use Rattle.row_store.proofs.ViewLaws.{new-entry, new-id, are-places}
use Rattle.row_store.proofs.claims.prepare.Goals as goal

tied : (c : goal.After-place-3-1) → AreTied c.args.rows.now.parts c.settle.new.places c.settle.new.index None
tied c = rw c.in_ok-settle.ensures.settled at c.settle.ensures.tied

pub enter-requires-clause-none : goal.enter-requires-clause-none
enter-requires-clause-none c =
    let fresh = ap (row_of c.args.rowid.now) c.settle.ensures.rows ∙ c.requires.fresh in
    ap (λ i. entry_of i c.settle.new.index) c.in_ok-place.ensures.claimed.own
    ∙ new-entry c.args.rows.now.parts c.settle.new.places c.settle.new.index (tied c) c.known.ensures.rising c.args.rowid.now fresh

pub enter-requires-clause-own_id : goal.enter-requires-clause-own_id
enter-requires-clause-own_id c = IfSome_then c.args.id c.requires.own_id (λ text none. new-id c.args.rows.now.parts c.settle.new.places c.settle.new.index (tied c) c.known.ensures.rising text.now (ap (row_with_id text.now) c.settle.ensures.rows ∙ none))

pub returns-clause-ready : goal.returns-clause-ready
returns-clause-ready c =
    let parts = c.args.rows.now.parts in
    let places = c.settle.new.places in
    let index = c.settle.new.index in
    let free : AreTied parts places index None = rw c.in_ok-settle.ensures.settled at c.settle.ensures.tied in
    let are = are-places parts places index free c.known.ensures.rising c.known-2.ensures in
    let own = c.in_ok-place.ensures.claimed.own in
    let shown = subst (λ rs. PlacesAre c.args.rows.now.places.size rs places) c.settle.ensures.rows (subst (λ n. PlacesAre n (rows_of parts places index) places) c.settle.ensures.size are) in (
      places,
      (
        shown,
        record {
          claimed = c.in_ok-place.ensures.claimed;
          entry = ap (λ i. entry_of i c.enter.new.index) (sym own) ∙ c.in_ok-enter.ensures.entry ∙ ap (λ i. Some (record { rowid = i; chunk = c.in_ok-place.place.chunk; slot = c.in_ok-place.place.slot; id = option_copied c.args.id })) own;
          row = ap (is_touched_row c.touch.new.self) (sym own) ∙ c.in_ok-touch.ensures.row;
          spot = c.in_ok-touch.ensures.place;
        },
      ),
    )
