use Rattle.std.proofs.Common.{rules, ◌≡◌, ◌-◌, ◌∙◌, sym, ap, get_or, None, Some, subst, Option}
use Rattle.knn_plan.specs.Plans.{IsPlanFor}
use Rattle.table_version.specs.Versions.{VersionState}
use Rattle.table_rows.specs.ScanRows.{scan_rows}
use Rattle.txn_reads.proofs.SeenLaws.{lent-is, never-missing}
use Rattle.txn_sessions.specs.Seen.{rows_in}
use Rattle.version_shelf.specs.OnShelf.{at_place}
use Rattle.txn_reads.proofs.pages.rows_under.Goals as goal

pub unreachable-requires : goal.unreachable-requires
unreachable-requires c =
    let missing : ◌≡◌ {A = Option VersionState} None (at_place c.args.shelf.now (get_or c.args.held.now.places (c.args.number - 1) None)) = search rules in
    never-missing c.args.shelf.now c.args.held.now c.args.number c.requires.version c.requires.low c.requires.there missing

pub invariant_of-result : goal.invariant_of-result
invariant_of-result c =
    let given : ◌≡◌ {A = Option VersionState} (Some c.in-Some.table.now) (at_place c.args.shelf.now (get_or c.args.held.now.places (c.args.number - 1) None)) = search rules in
    let same = lent-is c.args.shelf.now c.args.held.now c.args.number c.requires.version c.in-Some.table.now c.requires.low c.requires.there given in
    record { for_columns = subst (λ (v : VersionState). IsPlanFor v.table.schema.columns c.args.plan.now) (sym same) c.requires.planned }

pub returns : goal.returns
returns c =
    let given : ◌≡◌ {A = Option VersionState} (Some c.in-Some.table.now) (at_place c.args.shelf.now (get_or c.args.held.now.places (c.args.number - 1) None)) = search rules in
    let same = lent-is c.args.shelf.now c.args.held.now c.args.number c.requires.version c.in-Some.table.now c.requires.low c.requires.there given in
    ap (λ (v : VersionState). scan_rows c.args.plan.now v.table) same ∙ sym (ap (rows_in c.args.plan.now) c.requires.there)
