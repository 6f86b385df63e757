use Rattle.row_model.specs.Step.{dropped, found}
use Rattle.txn_sessions.proofs.ChangeLaws.{at-moved, seen-valid}
use Rattle.txn_writes.proofs.WriteLaws.{exact-moved, valid-moved}
use Rattle.txn_writes.proofs.drops.drop_table.Goals as goal

pub dropped-requires-clause-valid : goal.dropped-requires-clause-valid
dropped-requires-clause-valid c =
    let old = c.args.machine.now in
    let mid = c.sweep.new.self in
    seen-valid mid c.args.at (valid-moved old mid c.sweep.ensures.moved c.requires.valid) (at-moved old mid c.args.at c.sweep.ensures.moved c.requires.at).within

pub returns : goal.returns
returns c =
    exact-moved (λ s z. dropped c.args.name.now s z (found c.args.name.now s z)) c.args.machine.now c.sweep.new.self c.dropped.new.machine c.args.at c.dropped.result c.sweep.ensures.moved c.dropped.ensures
