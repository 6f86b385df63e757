use Rattle.row_model.specs.Step.{found, updates}
use Rattle.txn_sessions.proofs.ChangeLaws.{at-moved, seen-valid}
use Rattle.txn_writes.proofs.WriteLaws.{valid-moved, write-moved}
use Rattle.txn_writes.proofs.updates.update.Goals as goal

pub updated-made-requires-clause-valid : goal.updated-made-requires-clause-valid
updated-made-requires-clause-valid c =
    let old = c.args.machine.now in
    let mid = c.sweep.new.self in
    seen-valid mid c.args.at (valid-moved old mid c.sweep.ensures.moved c.requires.valid) (at-moved old mid c.args.at c.sweep.ensures.moved c.requires.at).within

pub returns : goal.returns
returns c =
    write-moved (λ s z. updates c.args.update s z (found c.args.update.table s z)) c.args.machine.now c.sweep.new.self c.take.new.machine c.args.at c.take.result c.sweep.ensures.moved (c.take.ensures _ c.updated-made.ensures)
