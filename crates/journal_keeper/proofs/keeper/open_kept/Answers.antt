use Rattle.journal_keeper.proofs.OpenLaws.{opened_kept}
use Rattle.journal_keeper.proofs.keeper.open_kept.Goals as goal

pub returns-clause-stands : goal.returns-clause-stands
returns-clause-stands g c told =
    let e = c.open_journal.ensures in
    opened_kept (g.D.Disk.may_leave c.open_journal.new.disk) (g.D.Disk.reads c.open_journal.new.disk) c.open_journal.result (e.within told) (e.shut told) (e.leads told) (e.synced told)
