use Rattle.std.proofs.Common.{◌≡◌, ◌⊎◌, ◌≤◌, ℕ, List, IsTrue, Option, Some, sym, subst, ◌∙◌}
use Rattle.vec_base.specs.declared.shadow.Change.{Change}
use Rattle.shadow_records.specs.Batches.{applied}
use Rattle.shadow_records.specs.Keys.{Tables}
use Rattle.shadow_keeper.specs.Keeping.{Makes, LeftAfter}
use Rattle.journal_batches.specs.Stopping.{tables_up_to, Shows, ShowsSince}
use Rattle.journal_keeper.specs.States.{State, keeper_tables, keeper_stopped, keeper_since}
use Rattle.journal_keeper.proofs.keeper.JournalKeeperKeeper.commit.Goals as goal

pub returns-clause-made : goal.returns-clause-made
returns-clause-made g c told =
    let Told : State g.row.D.Denot → Type 0 = λ s. IsTrue (g.D.Disk.tells s.disk) in
    let told1 : IsTrue (g.D.Disk.tells c.self.inside.disk) = subst Told (sym c.self.view_is) told in
    let old : State g.row.D.Denot = record { disk = c.self.inside.disk; place = c.self.inside.place; left = c.self.inside.left.entries; last = c.self.inside.last; ended = c.self.inside.ended } in
    let file = g.D.Disk.reads c.add_batch.new.disk in
    let files = g.D.Disk.may_leave c.add_batch.new.disk in
    let place = c.add_batch.new.place in
    let M : State g.row.D.Denot → List Change → Type 0 = λ s cs. Makes (keeper_tables g.D.Disk.reads s) (applied cs (keeper_tables g.D.Disk.reads s)) (tables_up_to file place.gate) c.add_batch.result in
    let S : State g.row.D.Denot → Type 0 = λ s. M s c.args.batch.now.changes in
    let C : List Change → Type 0 = λ cs. M old cs in
    subst S c.self.view_is (subst C c.as_slice-changes.ensures (c.add_batch.ensures.made told1))

pub returns-clause-stopped : goal.returns-clause-stopped
returns-clause-stopped g c told =
    let Told : State g.row.D.Denot → Type 0 = λ s. IsTrue (g.D.Disk.tells s.disk) in
    let told1 : IsTrue (g.D.Disk.tells c.self.inside.disk) = subst Told (sym c.self.view_is) told in
    let old : State g.row.D.Denot = record { disk = c.self.inside.disk; place = c.self.inside.place; left = c.self.inside.left.entries; last = c.self.inside.last; ended = c.self.inside.ended } in
    let file = g.D.Disk.reads c.add_batch.new.disk in
    let files = g.D.Disk.may_leave c.add_batch.new.disk in
    let place = c.add_batch.new.place in
    let M : State g.row.D.Denot → List Change → Type 0 = λ s cs. LeftAfter (keeper_stopped g.D.Disk.may_leave g.D.Disk.reads s) (keeper_tables g.D.Disk.reads s) (applied cs (keeper_tables g.D.Disk.reads s)) (Shows files file place.gate place.uncertain) c.add_batch.result in
    let S : State g.row.D.Denot → Type 0 = λ s. M s c.args.batch.now.changes in
    let C : List Change → Type 0 = λ cs. M old cs in
    subst S c.self.view_is (subst C c.as_slice-changes.ensures (c.add_batch.ensures.stopped told1))

pub returns-clause-during : goal.returns-clause-during
returns-clause-during g c told =
    let Told : State g.row.D.Denot → Type 0 = λ s. IsTrue (g.D.Disk.tells s.disk) in
    let told1 : IsTrue (g.D.Disk.tells c.self.inside.disk) = subst Told (sym c.self.view_is) told in
    let old : State g.row.D.Denot = record { disk = c.self.inside.disk; place = c.self.inside.place; left = c.self.inside.left.entries; last = c.self.inside.last; ended = c.self.inside.ended } in
    let file = g.D.Disk.reads c.add_batch.new.disk in
    let files = g.D.Disk.may_leave c.add_batch.new.disk in
    let place = c.add_batch.new.place in
    let M : State g.row.D.Denot → List Change → Type 0 = λ s cs. (moment : ℕ) (left : Option Tables) → moment ≤ g.D.Disk.moment s.disk
    → ShowsSince (g.D.Disk.left_since c.add_batch.new.disk) files file place.gate place.uncertain moment left
    → keeper_since g.D.Disk.left_since g.D.Disk.may_leave g.D.Disk.reads s moment left
    ⊎ (keeper_stopped g.D.Disk.may_leave g.D.Disk.reads s left ⊎ (left ≡ Some (applied cs (keeper_tables g.D.Disk.reads s)))) in
    let S : State g.row.D.Denot → Type 0 = λ s. M s c.args.batch.now.changes in
    let C : List Change → Type 0 = λ cs. M old cs in
    subst S c.self.view_is (subst C c.as_slice-changes.ensures (c.add_batch.ensures.during told1))
