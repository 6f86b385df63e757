use Rattle.std.proofs.Common.{rules, inl}
use Rattle.txn_reads.proofs.CountLaws.{counts-seen}
use Rattle.txn_reads.proofs.ReadingLaws.{match-shape, selected-refused, selected-rows}
use Rattle.txn_reads.proofs.reading.select.Goals as goal

pub returns-in-Ok-clause-reply : goal.returns-in-Ok-clause-reply
returns-in-Ok-clause-reply g c = inl (selected-rows c.args.machine.now c.args.at c.args.select c.in-Some.seen.number c.in-Some.seen.version.now c.in-Ok.rows (search rules) c.in-Ok.ensures.welcome c.in-Ok.ensures.rows)

pub returns-in-Ok-clause-counts : goal.returns-in-Ok-clause-counts
returns-in-Ok-clause-counts g c rows nearest named is =
    counts-seen c.args.machine.now c.args.at c.args.select c.args.workers c.in-Some.seen.number c.in-Some.seen.version.now c.args.steps.now c.rows_of.new.steps (search rules) (search rules)
    (c.in-Ok.ensures.counts (match-shape c.in-Some.seen.version.now.table.schema.columns c.args.select nearest)) named is

pub returns-in-Err-clause-reply : goal.returns-in-Err-clause-reply
returns-in-Err-clause-reply g c = selected-refused c.args.machine.now c.args.at c.args.select c.in-Some.seen.number c.in-Some.seen.version.now c.in-Err.refusal (search rules) c.in-Err.ensures.refused
