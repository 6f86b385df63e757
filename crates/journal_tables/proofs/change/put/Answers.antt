use Rattle.journal_tables.proofs.MapLaws.{inserted}
use Rattle.journal_tables.proofs.change.put.Goals as goal

pub returns : goal.returns
returns c = inserted c.args.tables.now.entries c.insert.new.self.entries c.args.key c.args.body c.in_ok-insert.ensures.updates.0
