use Rattle.std.proofs.Common.{length}
use Rattle.journal_writes.proofs.Steps.{follows_wider}
use Rattle.journal_writes.proofs.transfers.write_some.Goals as goal

pub returns-in-Took-clause-torn : goal.returns-in-Took-clause-torn
returns-in-Took-clause-torn g c told =
    follows_wider c.args.at c.in-Took.count (length c.args.bytes.now) (g.D.Disk.may_leave c.args.disk.now) (g.D.Disk.may_leave c.write_at.new.self) c.in-Took.ensures.took.0 (c.in-Took.ensures.torn told)
