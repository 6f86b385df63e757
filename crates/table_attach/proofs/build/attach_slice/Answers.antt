use Rattle.std.proofs.Common.{rules}
use Rattle.table_attach.proofs.AttachLaws.{differs, refused, theirs}
use Rattle.table_attach.proofs.build.attach_slice.Goals as goal

pub returns-in-Err-clause-damaged : goal.returns-in-Err-clause-damaged
returns-in-Err-clause-damaged c =
    λ damaged. refused c.args.number c.args.records.now c.requires.sorted c.in_ok-table.table.table c.in_ok-table.ensures.opened (c.in-Err.ensures.failed damaged)

pub returns-in-Ok-true-clause-records : goal.returns-in-Ok-true-clause-records
returns-in-Ok-true-clause-records c =
    theirs c.args.number c.args.records.now c.requires.sorted c.in_ok-table.table.table c.in_ok-table.ensures.opened c.fill.new.table.table (search rules) c.known.ensures (search rules)

pub returns-in-Ok-false-clause-damaged : goal.returns-in-Ok-false-clause-damaged
returns-in-Ok-false-clause-damaged c =
    λ damaged. differs c.args.number c.args.records.now c.requires.sorted c.in_ok-table.table.table c.in_ok-table.ensures.opened c.fill.new.table.table (search rules) (search rules)
