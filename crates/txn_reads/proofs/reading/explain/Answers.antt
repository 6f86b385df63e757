use Rattle.std.proofs.Common.{rules}
use Rattle.txn_reads.proofs.ReadingLaws.{explained-plan, explained-refused}
use Rattle.txn_reads.proofs.reading.explain.Goals as goal

pub returns-in-Ok : goal.returns-in-Ok
returns-in-Ok c = rw c.shape.ensures (explained-plan c.args.machine.now c.args.at c.args.select c.in-Some.seen.number c.in-Some.seen.version.now c.in-Ok.plan (search rules) c.in-Ok.ensures.plan c.in-Ok.ensures.select)

pub returns-in-Err : goal.returns-in-Err
returns-in-Err c = explained-refused c.args.machine.now c.args.at c.args.select c.in-Some.seen.number c.in-Some.seen.version.now c.in-Err.refusal (search rules) c.in-Err.ensures.refused
