use Rattle.txn_reads.proofs.PageLaws.{passes}
use Rattle.txn_reads.proofs.pages.advance.Goals as goal

pub returns-in-Some : goal.returns-in-Some
returns-in-Some c = passes c.args.machine.now c.pass_at.new.machine c.args.at c.args.number c.in-Some.place c.args.count c.requires.sound c.requires.at c.in-Some.ensures c.pass_at.ensures
