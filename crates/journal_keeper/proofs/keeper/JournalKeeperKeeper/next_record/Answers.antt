use Rattle.std.proofs.Common.{◌≡◌, ◌∷◌, List, ℕ, false, IsTrue, Option, Some, refl, sym, ap, subst, ◌∙◌}
use Rattle.vec_base.specs.declared.shadow.ShadowKey.{ShadowKey}
use Rattle.shadow_records.specs.Keys.{Tables}
use Rattle.shadow_keeper.specs.Keeping.{IsAbove}
use Rattle.journal_batches.specs.Stopping.{Shows}
use Rattle.journal_keeper.specs.States.{State, keeper_stopped}
use Rattle.journal_keeper.proofs.LeftLaws.{next_above, not_ended}
use Rattle.journal_keeper.proofs.keeper.JournalKeeperKeeper.next_record.Goals as goal

pub returns-in-Some-clause-left : goal.returns-in-Some-clause-left
returns-in-Some-clause-left g c told =
    let rest = c.pop_first.new.self.entries in
    let same : c.from_vec.result ≡ c.in-Some.body = c.from_vec.ensures ∙ c.into_vec.ensures in
    let Q : State g.row.D.Denot → Type 0 = λ s. s.left ≡ (c.in-Some.key, c.from_vec.result) ∷ rest in
    subst Q c.self.view_is (c.in-Some.ensures.removal ∙ ap (λ (body : List ℕ). (c.in-Some.key, body) ∷ rest) (sym same))

pub returns-in-Some-clause-key : goal.returns-in-Some-clause-key
returns-in-Some-clause-key g c =
    let rest = c.pop_first.new.self.entries in
    let Q : State g.row.D.Denot → Type 0 = λ s. IsAbove s.last c.in-Some.key × (Some c.in-Some.key ≡ Some c.in-Some.key) in
    subst Q c.self.view_is (next_above c.self.inside.last c.self.inside.left.entries c.in-Some.key c.in-Some.body rest c.in-Some.ensures.removal c.self.invariant.order, refl)

pub returns-in-Some-clause-ended : goal.returns-in-Some-clause-ended
returns-in-Some-clause-ended g c =
    let e : ShadowKey × List ℕ = (c.in-Some.key, c.in-Some.body) in
    let rest = c.pop_first.new.self.entries in
    let none : c.self.inside.ended ≡ false = not_ended c.self.inside.ended c.self.inside.left.entries e rest c.in-Some.ensures.removal c.self.invariant.done in
    let Q : State g.row.D.Denot → Type 0 = λ s. (s.ended ≡ false) × (c.self.inside.ended ≡ false) in
    subst Q c.self.view_is (none, none)

pub returns-in-Some-clause-stopped : goal.returns-in-Some-clause-stopped
returns-in-Some-clause-stopped g c =
    let Q : State g.row.D.Denot → Type 0 = λ s. (left : Option Tables) → Shows (g.D.Disk.may_leave c.self.inside.disk) (g.D.Disk.reads c.self.inside.disk) c.self.inside.place.gate c.self.inside.place.uncertain left → keeper_stopped g.D.Disk.may_leave g.D.Disk.reads s left in
    subst Q c.self.view_is (λ left shows. shows)
