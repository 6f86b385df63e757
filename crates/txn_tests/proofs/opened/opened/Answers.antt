use Rattle.txn_tests.proofs.opened.opened.Goals as goal

pub start-requires-clause-records : goal.start-requires-clause-records
start-requires-clause-records g c told = c.requires

pub start-requires-clause-settled : goal.start-requires-clause-settled
start-requires-clause-settled g c told left is = absurd is
