use Rattle.txn_core.proofs.execute.execute_other.Goals as goal

pub returns-in-Select-clause-counts : goal.returns-in-Select-clause-counts
returns-in-Select-clause-counts g c = rw c.in-Select.is c.select_turn.ensures.counts
