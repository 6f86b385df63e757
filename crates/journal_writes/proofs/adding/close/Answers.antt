use Rattle.journal_writes.specs.Moments.{AllAre, TornFrom}
use Rattle.journal_writes.specs.Gates.{Gated, Rests}
use Rattle.journal_writes.proofs.Steps.{weaker}
use Rattle.journal_writes.proofs.GateLaws.{gated_torn, as_gated, from_gated, all_weaker, follows_all}
use Rattle.journal_writes.proofs.adding.close.Goals as goal

pub returns-then-uncertain-clause-failed : goal.returns-then-uncertain-clause-failed
returns-then-uncertain-clause-failed g c told fails front tail is all =
    let gated : AllAre (Gated front tail) (g.D.Disk.may_leave c.args.disk.now) = all_weaker (Rests c.args.uncertain front tail) (Gated front tail) (g.D.Disk.may_leave c.args.disk.now) (as_gated c.args.uncertain c.if-uncertain.true front tail) all in
    all_weaker (Gated front tail) (Rests c.args.uncertain front tail) (g.D.Disk.may_leave c.write_synced.new.disk) (from_gated c.args.uncertain c.if-uncertain.true front tail)
    (follows_all c.args.gate 1 (Gated front tail) (g.D.Disk.may_leave c.args.disk.now) (g.D.Disk.may_leave c.write_synced.new.disk) (gated_torn front c.args.gate is tail (g.D.Disk.may_leave c.args.disk.now) gated) (c.write_synced.ensures.torn told))

pub returns-then-uncertain-clause-during : goal.returns-then-uncertain-clause-during
returns-then-uncertain-clause-during g c told front tail is all =
    let gated : AllAre (Gated front tail) (g.D.Disk.may_leave c.args.disk.now) = all_weaker (Rests c.args.uncertain front tail) (Gated front tail) (g.D.Disk.may_leave c.args.disk.now) (as_gated c.args.uncertain c.if-uncertain.true front tail) all in
    weaker g.D.Disk.moment g.D.Disk.left_since c.args.disk.now c.write_synced.new.disk (TornFrom (g.D.Disk.may_leave c.args.disk.now) c.args.gate 1) (Rests c.args.uncertain front tail) (c.write_synced.ensures.time told)
    (λ f from. from_gated c.args.uncertain c.if-uncertain.true front tail f (gated_torn front c.args.gate is tail (g.D.Disk.may_leave c.args.disk.now) gated f from))
