use Rattle.row_model.specs.Step.{created, found}
use Rattle.txn_writes.proofs.WriteLaws.{write-moved}
use Rattle.txn_writes.proofs.creates.create.Goals as goal

pub returns : goal.returns
returns c =
    write-moved (λ s z. created c.args.name c.args.schema s z (found c.args.name s z)) c.args.machine.now c.sweep.new.self c.take.new.machine c.args.at c.take.result c.sweep.ensures.moved (c.take.ensures _ c.created-made.ensures)
