use Rattle.std.proofs.Common.{◌∙◌, sym, ap}
use Rattle.std.specs.Prelude.{is_some, not}
use Rattle.table_version.proofs.PlacingLaws.{no_row_at}
use Rattle.table_version.proofs.place_row.is_free.Goals as goal

pub returns-in-None : goal.returns-in-None
returns-in-None c =
    let none = sym c.slots.ensures.there ∙ ap is_some c.in-None.is in
    sym (ap (λ o. not (is_some o)) (no_row_at c.args.rows.now.rows c.args.place.now.chunk c.args.place.now.slot none))
