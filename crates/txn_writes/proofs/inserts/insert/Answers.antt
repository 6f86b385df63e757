use Rattle.row_model.specs.Step.{found, inserted}
use Rattle.txn_sessions.proofs.ChangeLaws.{at-moved, seen-valid}
use Rattle.txn_writes.proofs.WriteLaws.{valid-moved, write-moved}
use Rattle.txn_writes.proofs.inserts.insert.Goals as goal

pub inserted-made-requires-clause-valid : goal.inserted-made-requires-clause-valid
inserted-made-requires-clause-valid c =
    let old = c.args.machine.now in
    let mid = c.sweep.new.self in
    seen-valid mid c.args.at (valid-moved old mid c.sweep.ensures.moved c.requires.valid) (at-moved old mid c.args.at c.sweep.ensures.moved c.requires.at).within

pub returns : goal.returns
returns c =
    write-moved (λ s z. inserted c.args.insert.now s z (found c.args.insert.now.table s z)) c.args.machine.now c.sweep.new.self c.take.new.machine c.args.at c.take.result c.sweep.ensures.moved (c.take.ensures _ c.inserted-made.ensures)
