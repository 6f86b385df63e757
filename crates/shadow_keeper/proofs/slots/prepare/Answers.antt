use Rattle.shadow_keeper.proofs.EditLaws.{prepared_more}
use Rattle.shadow_keeper.proofs.slots.prepare.Goals as goal

pub loop-change-preserved : goal.loop-change-preserved
loop-change-preserved c = rw c.in_ok-push.ensures.items
    (prepared_more c.args.changes.now c.loop-change.change-index c.change-item.result _ _ _ c.in_ok-prepared.field-0 _ c.loop-change-test.true c.change-item.is c.in_ok-prepared.ensures
    c.hold.ensures.tables c.hold.ensures.held (rw (← c.changed_key.ensures) c.in_ok-hold.ensures.ok) c.loop-change.invariant)
