use Rattle.std.proofs.Common.{◌==◌, [], List, Option, None, Some, ap, sym, subst, Bor}
use Rattle.std.specs.Option.{option_copied, option_map}
use Rattle.vec_base.specs.declared.shadow.Change.{Change}
use Rattle.vec_base.specs.declared.shadow.ShadowKey.{ShadowKey}
use Rattle.shadow_records.specs.PlacedTables.{PlacedTable}
use Rattle.table_version.specs.Versions.{VersionState}
use Rattle.table_changes.specs.inner.Steps.{TurnsKeys}
use Rattle.table_changes.proofs.changes.cleared.Goals as goal

pub returns : goal.returns
returns c =
    let P : List Change → Type 0 = λ cs. TurnsKeys (λ (key : ShadowKey). key.table == c.args.number) (Some c.in-Some.table.now.table) None cs c.all.new.changes in
    let Q : Option PlacedTable → Type 0 = λ table. TurnsKeys (λ (key : ShadowKey). key.table == c.args.number) table None [] c.all.new.changes in
    subst Q (sym (ap (λ (o : Option (Bor VersionState)). option_map (λ (version : VersionState). version.table) (option_copied o)) c.in-Some.is)) (subst P c.new-changes.ensures c.in_ok-all.ensures)
