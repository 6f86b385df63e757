use Rattle.std.proofs.Common.{rules, sym, ◌∙◌}
use Rattle.txn_reads.proofs.OpeningLaws.{refused-room, refused-statement}
use Rattle.txn_reads.proofs.opening.prepared.Goals as goal

pub returns-in-Err-clause-refused : goal.returns-in-Err-clause-refused
returns-in-Err-clause-refused c = refused-statement c.args.machine.now c.args.at c.args.select c.in-Some.seen.number c.in-Some.seen.version.now c.in-Err.refusal (search rules) c.in-Err.ensures.refused

pub returns-in-Some-cursor_refusal-clause-refused : goal.returns-in-Some-cursor_refusal-clause-refused
returns-in-Some-cursor_refusal-clause-refused c =
    refused-room c.args.machine.now c.args.at c.args.select c.in-Some.seen.number c.in-Some.seen.version.now c.in-Ok.plan c.in-Some-cursor_refusal.refusal (search rules) c.in-Ok.ensures.plan c.in-Ok.ensures.select
    (sym c.in-Some-cursor_refusal.is ∙ c.cursor_refusal.ensures)
