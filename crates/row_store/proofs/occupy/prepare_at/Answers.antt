use Rattle.std.proofs.Common.{ap, ◌∙◌, sym, None}
use Rattle.std.proofs.lemmas.Option.{IfSome_then}
use Rattle.row_store.specs.StoredRows.{first_in, row_of, row_with_id}
use Rattle.row_store.specs.inner.Views.{AreTied}
use Rattle.row_store.proofs.ViewLaws.{new-entry, new-id}
use Rattle.row_store.proofs.occupy.prepare_at.Goals as goal

pub enter-requires-clause-none : goal.enter-requires-clause-none
enter-requires-clause-none c =
    let tied : AreTied c.args.rows.now.parts c.settle.new.places c.settle.new.index None = rw c.in_ok-settle.ensures.settled at c.settle.ensures.tied in
    let fresh = ap (row_of c.args.place.now.rowid) c.settle.ensures.rows ∙ c.requires.fresh in
    new-entry c.args.rows.now.parts c.settle.new.places c.settle.new.index tied c.known.ensures.rising c.args.place.now.rowid fresh

pub enter-requires-clause-own_id : goal.enter-requires-clause-own_id
enter-requires-clause-own_id c =
    let tied : AreTied c.args.rows.now.parts c.settle.new.places c.settle.new.index None = rw c.in_ok-settle.ensures.settled at c.settle.ensures.tied in
    IfSome_then c.args.id c.requires.own_id (λ text none. new-id c.args.rows.now.parts c.settle.new.places c.settle.new.index tied c.known.ensures.rising text.now (ap (row_with_id text.now) c.settle.ensures.rows ∙ none))

pub claim_at-requires-clause-alike : goal.claim_at-requires-clause-alike
claim_at-requires-clause-alike c = λ row is. c.requires.alike row (ap (λ rows. first_in rows c.args.place.now.chunk) (sym c.settle.ensures.rows) ∙ is)
