use Rattle.std.proofs.Common.{List, sym, subst}
use Rattle.row_model.specs.declared.schema.Column.{Column}
use Rattle.table_query.specs.Read.{IsThere}
use Rattle.table_query.proofs.ReadLaws.{place_there}
use Rattle.table_writes.proofs.sets.+row_gone.Goals as goal

pub bytes_in-requires : goal.bytes_in-requires
bytes_in-requires t c =
    subst (λ (cs : List Column). IsThere cs c.of-place.result) (sym c.requires.same) (place_there c.args.columns.now c.in-Some.set.now.column c.of-place.result c.of-place.ensures)
