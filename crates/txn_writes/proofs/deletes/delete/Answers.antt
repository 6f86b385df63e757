use Rattle.row_model.specs.Step.{deletes, found}
use Rattle.txn_writes.proofs.WriteLaws.{write-moved}
use Rattle.txn_writes.proofs.deletes.delete.Goals as goal

pub returns : goal.returns
returns c =
    write-moved (λ s z. deletes c.args.delete s z (found c.args.delete.table s z)) c.args.machine.now c.sweep.new.self c.take.new.machine c.args.at c.take.result c.sweep.ensures.moved (c.take.ensures _ c.deleted-made.ensures)
