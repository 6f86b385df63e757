use Rattle.std.proofs.Common.{rules, ◌≡◌, ◌∙◌, ap, sym, w64, Some}
use Rattle.std.proofs.lemmas.Int.{to_z-of_z}
use Rattle.std.specs.Option.{option_map}
use Rattle.shadow_records.specs.PlacedTables.{row_at, row_of}
use Rattle.table_version.specs.Versions.{rowid_in}
use Rattle.table_bodies.proofs.PlaceLaws.{row_there}
use Rattle.table_bodies.proofs.rows.row_in.Goals as goal

pub returns-clause-row : goal.returns-clause-row
returns-clause-row c =
    let table = c.args.table.now.table in
    let there : Some c.in_ok-rowid.rowid ≡ option_map rowid_in (row_at table.rows c.args.chunk c.args.slot) = search rules in
    let same = to_z-of_z w64 c.in_ok-rowid.rowid (search rules) in
    row_there table c.args.chunk c.args.slot c.in_ok-rowid.rowid c.known.ensures there ∙ ap (row_of table.rows) (sym same) ∙ c.row.ensures.row
