use Rattle.txn_core.proofs.CountLaws.{turn_in}
use Rattle.txn_core.proofs.execute.execute_turn.Goals as goal

pub returns-in-Some-clause-counts : goal.returns-in-Some-clause-counts
returns-in-Some-clause-counts g c =
    turn_in c.args.machine.now c.args.session c.in-Some.at c.args.statement c.args.workers c.args.steps.now c.execute_at.new.steps c.execute_at.result c.in-Some.ensures c.execute_at.ensures.counts
