use Rattle.std.proofs.Common.{◌==◌, [], None, Some}
use Rattle.std.specs.Option.{option_copied, option_map}
use Rattle.vec_base.specs.declared.shadow.ShadowKey.{ShadowKey}
use Rattle.shadow_records.specs.StandsFor.{record_in}
use Rattle.table_version.specs.Versions.{VersionState}
use Rattle.table_changes.proofs.Steps.{rewrites-twice}
use Rattle.table_changes.proofs.Turning.{turns-all}
use Rattle.table_changes.proofs.changes.changes_since.Goals as goal

pub returns-clause-turns : goal.returns-clause-turns
returns-clause-turns c =
    let before = option_map (λ (version : VersionState). version.table) (option_copied c.args.older) in
    turns-all c.args.number before (Some c.args.newer.now.table) c.all.new.changes
    (rewrites-twice (λ (key : ShadowKey). key.table == c.args.number) (record_in before) (record_in None) (record_in (Some c.args.newer.now.table)) [] _ c.all.new.changes c.in_ok-changes.ensures c.in_ok-all.ensures)
