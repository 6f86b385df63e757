use Rattle.std.proofs.Common.{rules, SFits}
use Rattle.std.specs.Int.{w64}
use Rattle.std.proofs.lemmas.Int.{to_z-of_z}
use Rattle.table_attach.proofs.OpenLaws.{opened}
use Rattle.table_attach.proofs.open.open.Goals as goal

pub returns-in-Ok-clause-opened : goal.returns-in-Ok-clause-opened
returns-in-Ok-clause-opened c =
    let fits : SFits w64 c.in-Some-read_top.top = search rules in
    let same = to_z-of_z w64 c.in-Some-read_top.top fits in
    opened c.args.number c.args.records.now c.in-Some.info.now c.in-Some-body.top.now c.in_ok-info.info.name c.in_ok-info.info.schema c.in-Some-read_top.top c.in-Ok.table.table
    (search rules) (search rules) (search rules) (search rules) (rw same at c.in-Ok.ensures)
