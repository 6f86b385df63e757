use Rattle.shadow_keeper.proofs.RecordLaws.{record_added}
use Rattle.std.proofs.Common.{◌∙◌}
use Rattle.shadow_keeper.proofs.slots.copied.Goals as goal

pub loop-record-preserved : goal.loop-record-preserved
loop-record-preserved c =
    record_added c.args.records.now c.loop-record.record-index c.record-item.result c.in_ok-copied.field-0 _ _ c.requires c.loop-record-test.true c.record-item.is
    (c.in_ok-copied.ensures ∙ c.as_slice.ensures) c.loop-record.invariant c.in_ok-add.ensures
