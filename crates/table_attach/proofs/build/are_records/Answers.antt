use Rattle.std.proofs.Common.{rules}
use Rattle.table_attach.specs.inner.Filling.{IsRecordOf}
use Rattle.table_attach.proofs.StepLaws.{all_at, all_more}
use Rattle.table_attach.proofs.build.are_records.Goals as goal

pub loop-kept-preserved : goal.loop-kept-preserved
loop-kept-preserved c =
    all_more (IsRecordOf c.args.number c.args.table.now.table) c.args.records.now c.loop-kept.kept-index c.kept-item.result c.kept-item.result c.loop-kept.invariant (search rules) (search rules) (c.in_ok-is_record.ensures.is (search rules))

pub returns-then-not-branch-clause-differ : goal.returns-then-not-branch-clause-differ
returns-then-not-branch-clause-differ c =
    λ same all. c.in_ok-is_record.ensures.differs c.if-not-branch.true
    (all_at (IsRecordOf c.args.number c.args.table.now.table) c.args.records.now c.loop-kept.kept-index c.kept-item.result c.kept-item.result all (search rules) (search rules))
