use Rattle.std.proofs.Common.{inl, refl, subst}
use Rattle.journal_format.specs.Reading.{shown}
use Rattle.journal_keeper.specs.States.{State, keeper_stopped, keeper_since}
use Rattle.journal_keeper.proofs.keeper.JournalKeeper.into_disk.Goals as goal

pub returns-clause-now : goal.returns-clause-now
returns-clause-now g c f now =
    let Q : State g.row.D.Denot → Type 0 = λ s. keeper_stopped g.D.Disk.may_leave g.D.Disk.reads s (shown f) in
    subst Q c.self.view_is (inl (f, now, refl))

pub returns-clause-since : goal.returns-clause-since
returns-clause-since g c moment f now =
    let Q : State g.row.D.Denot → Type 0 = λ s. keeper_since g.D.Disk.left_since g.D.Disk.may_leave g.D.Disk.reads s moment (shown f) in
    subst Q c.self.view_is (inl (f, now, refl))
