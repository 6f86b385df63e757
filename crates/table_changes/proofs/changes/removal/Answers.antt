use Rattle.std.proofs.Common.{◌==◌, List, None, Some, subst}
use Rattle.vec_base.specs.declared.shadow.Change.{Change}
use Rattle.vec_base.specs.declared.shadow.ShadowKey.{ShadowKey}
use Rattle.table_changes.specs.inner.Steps.{TurnsKeys}
use Rattle.table_changes.proofs.Turning.{turns-all}
use Rattle.table_changes.proofs.changes.removal.Goals as goal

pub returns-clause-turns : goal.returns-clause-turns
returns-clause-turns c =
    let P : List Change → Type 0 = λ cs. TurnsKeys (λ (key : ShadowKey). key.table == c.args.number) (Some c.args.table.now.table) None cs c.all.new.changes in
    turns-all c.args.number (Some c.args.table.now.table) None c.all.new.changes (subst P c.new-changes.ensures c.in_ok-all.ensures)
