use Rattle.std.proofs.Common.{rules, ◌≡◌, [], ◌∷◌, ◌++◌, sym, subst}
use Rattle.txn_commits.specs.Keeping.{meanings}
use Rattle.txn_core.specs.inner.Reading.{Reads}
use Rattle.txn_core.proofs.LoadLaws.{loads_more, reads_more}
use Rattle.txn_core.proofs.load.load.Goals as goal

pub records-preserved : goal.records-preserved
records-preserved g c =
    let M = meanings g.K.Keeper.ended g.K.Keeper.tells g.K.Keeper.tables g.K.Keeper.faults g.K.Keeper.stopped g.K.Keeper.moment g.K.Keeper.stopped_since in
    let pushed : c.push.new.self ≡ c.records.records ++ (c.in-One.key, c.in-One.body) ∷ [] = search rules in
    let loads = loads_more M c.args.keeper.now c.records.keeper c.next_record.new.self c.records.invariant.loads c.next_record.ensures.tells c.next_record.ensures.tables c.next_record.ensures.stopped
    c.next_record.ensures.during c.next_record.ensures.clock c.next_record.ensures.count in
    subst (λ records. Reads M g.K.Keeper.left g.K.Keeper.last c.args.keeper.now records c.next_record.new.self) (sym pushed)
    (reads_more M g.K.Keeper.left g.K.Keeper.last c.args.keeper.now c.records.keeper c.next_record.new.self c.records.records c.in-One.key c.in-One.body c.records.invariant loads
    c.in-One.ensures.key c.in-One.ensures.left)
