use Rattle.std.proofs.Common.{◌≡◌, ap, sym, ◌∙◌, map, rules}
use Rattle.row_model.specs.declared.row.Table.{Table}
use Rattle.row_model.specs.Change.{Elsewhere, elsewhere}
use Rattle.row_model.specs.ColumnNames.{place_of}
use Rattle.row_model.specs.Step.{with_tables}
use Rattle.plain_engine.specs.inner.ByteTotals.{total_beside}
use Rattle.plain_engine.proofs.InsertLaws.{inserted_refused, inserted_grown}
use Rattle.row_model.proofs.SchemaLaws.{narrow_columns}
use Rattle.plain_engine.proofs.changes.insert_all.Goals as goal

pub places_of-requires : goal.places_of-requires
places_of-requires c = record { narrow = rw c.as_slice.ensures (narrow_columns c.args.table.now.schema c.requires.valid.schema) }

pub returns-clause-refused : goal.returns-clause-refused
returns-clause-refused c =
    let insert = c.args.insert.now in
    let table = c.args.table.now in
    let tables = c.args.tables.now in
    let other : Elsewhere = elsewhere insert.table (with_tables tables) in
    let places : c.in_ok-places.places.items ≡ map (place_of table.schema.columns) insert.columns = search rules in
    let totals : c.beside-totals.result ≡ total_beside other c.in_ok-copy.copy.rows =
    c.beside-totals.ensures ∙ ap (total_beside other) (c.as_slice-3.ensures ∙ ap (λ (t : Table). t.rows) (sym c.in_ok-copy.ensures)) in
    let grew = rw (c.as_slice-4.ensures.value, c.in_ok-copy.ensures, c.as_slice-5.ensures) at (c.grow.ensures.refused other totals) in
    inserted_refused insert tables table c.in_ok-places.places.items c.grow.result places grew

pub returns-clause-grown : goal.returns-clause-grown
returns-clause-grown c =
    let insert = c.args.insert.now in
    let table = c.args.table.now in
    let tables = c.args.tables.now in
    let other : Elsewhere = elsewhere insert.table (with_tables tables) in
    let places : c.in_ok-places.places.items ≡ map (place_of table.schema.columns) insert.columns = search rules in
    let totals : c.beside-totals.result ≡ total_beside other c.in_ok-copy.copy.rows =
    c.beside-totals.ensures ∙ ap (total_beside other) (c.as_slice-3.ensures ∙ ap (λ (t : Table). t.rows) (sym c.in_ok-copy.ensures)) in
    let grew = rw (c.as_slice-4.ensures.value, c.in_ok-copy.ensures, c.as_slice-5.ensures) at (c.grow.ensures.grown other totals) in
    let last = rw (c.as_slice-4.ensures.value, c.in_ok-copy.ensures, c.as_slice-5.ensures) at c.grow.ensures.last in
    inserted_grown insert tables table c.in_ok-places.places.items c.grow.result places grew last
