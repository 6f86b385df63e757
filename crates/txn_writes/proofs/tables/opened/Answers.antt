use Rattle.txn_writes.proofs.WriteLaws.{opens}
use Rattle.txn_writes.proofs.tables.opened.Goals as goal

pub share-requires-clause-there : goal.share-requires-clause-there
share-requires-clause-there c = rw c.seen.ensures c.requires.there

pub returns-in-Ok-clause-kept : goal.returns-in-Ok-clause-kept
returns-in-Ok-clause-kept c = opens c.args.machine.now c.args.at c.args.number c.in-Ok.kept c.requires.high (rw c.seen.ensures at c.in-Ok.ensures)
