use Rattle.std.proofs.Common.{rules, ◌≡◌, ◌-◌, ◌∙◌, sym, ap, subst, get_or, inl, None, Some, Option}
use Rattle.knn_plan.specs.Plans.{IsPlanFor}
use Rattle.row_model.specs.Answer.{answer}
use Rattle.row_model.specs.declared.request.Reply.{Reply}
use Rattle.row_model.specs.declared.state.State.{State}
use Rattle.shadow_records.specs.PlacedTables.{IsPlaced, plain}
use Rattle.snapshot_cursor.specs.Left.{rows_left}
use Rattle.table_version.specs.Versions.{VersionState}
use Rattle.txn_reads.proofs.CountLaws.{counts-seen}
use Rattle.txn_reads.proofs.OpeningLaws.{opened-rows}
use Rattle.txn_reads.proofs.ReadingLaws.{match-planned}
use Rattle.txn_reads.proofs.SeenLaws.{lent-is, never-missing}
use Rattle.txn_reads.specs.inner.TableSearches.{CountsSearch}
use Rattle.txn_reads.specs.inner.CursorPlans.{rows_by}
use Rattle.txn_sessions.proofs.ChangeLaws.{held-seen-on}
use Rattle.txn_sessions.specs.Seen.{rows_over, version_at}
use Rattle.txn_sessions.specs.Sound.{IsOn}
use Rattle.txn_sessions.specs.Takes.{Takes}
use Rattle.version_shelf.specs.OnShelf.{at_place}
use Rattle.version_shelf.specs.declared.held.Held.{Held}
use Rattle.txn_reads.proofs.opening.open_over.Goals as goal

pub unreachable-requires : goal.unreachable-requires
unreachable-requires g c =
    let prepared = c.requires.prepared in
    let shelf = c.args.machine.now.shelf in
    let there : version_at shelf c.seen-held.result c.args.number ≡ Some prepared.version = ap (λ (h : Held). version_at shelf h c.args.number) c.seen-held.ensures ∙ prepared.seen.there in
    let missing : ◌≡◌ {A = Option VersionState} None (at_place shelf (get_or c.seen-held.result.places (c.args.number - 1) None)) = search rules in
    never-missing shelf c.seen-held.result c.args.number prepared.version prepared.seen.low there missing

pub cursor_over-requires-clause-plan : goal.cursor_over-requires-clause-plan
cursor_over-requires-clause-plan g c _ _ =
    let prepared = c.requires.prepared in
    let shelf = c.args.machine.now.shelf in
    let there : version_at shelf c.seen-held.result c.args.number ≡ Some prepared.version = ap (λ (h : Held). version_at shelf h c.args.number) c.seen-held.ensures ∙ prepared.seen.there in
    let given : ◌≡◌ {A = Option VersionState} (Some c.in-Some.version.now) (at_place shelf (get_or c.seen-held.result.places (c.args.number - 1) None)) = search rules in
    let same = lent-is shelf c.seen-held.result c.args.number prepared.version c.in-Some.version.now prepared.seen.low there given in
    subst (λ (v : VersionState). IsPlanFor v.table.schema.columns c.args.plan) (sym same) prepared.planned

pub open_cursor-requires-clause-origin : goal.open_cursor-requires-clause-origin
open_cursor-requires-clause-origin g c =
    let prepared = c.requires.prepared in
    let shelf = c.args.machine.now.shelf in
    let there : version_at shelf c.seen-held.result c.args.number ≡ Some prepared.version = ap (λ (h : Held). version_at shelf h c.args.number) c.seen-held.ensures ∙ prepared.seen.there in
    c.origin_of.ensures.sound shelf (record {
      on = subst (IsOn shelf) (sym c.seen-held.ensures) (held-seen-on c.args.machine.now c.args.at c.requires.sound c.requires.at.within);
      low = prepared.seen.low;
      high = prepared.seen.high;
      version = prepared.version;
      there = there;
      planned = prepared.planned;
    })

pub returns-in-Ok-clause-turn : goal.returns-in-Ok-clause-turn
returns-in-Ok-clause-turn g c =
    let prepared = c.requires.prepared in
    let shelf = c.args.machine.now.shelf in
    let there : version_at shelf c.seen-held.result c.args.number ≡ Some prepared.version = ap (λ (h : Held). version_at shelf h c.args.number) c.seen-held.ensures ∙ prepared.seen.there in
    let given : ◌≡◌ {A = Option VersionState} (Some c.in-Some.version.now) (at_place shelf (get_or c.seen-held.result.places (c.args.number - 1) None)) = search rules in
    let same = lent-is shelf c.seen-held.result c.args.number prepared.version c.in-Some.version.now prepared.seen.low there given in
    let rows : rows_left c.in-Ok.cursor (rows_over shelf c.origin_of.result) ≡ answer (plain prepared.version.table) c.args.plan.select =
    ap (rows_left c.in-Ok.cursor) (c.origin_of.ensures.rows shelf prepared.version there ∙ ap (λ (v : VersionState). rows_by c.args.plan.shape c.args.plan v.table) (sym same))
    ∙ c.in-Ok.ensures.rows ∙ ap (λ (v : VersionState). answer (plain v.table) c.args.plan.select) same in
    inl (subst (λ (a : Reply × State). Takes c.args.machine.now a c.open_cursor.result c.open_cursor.new.self)
    (sym (opened-rows c.args.machine.now c.args.at c.args.number c.args.plan prepared (rows_left c.in-Ok.cursor (rows_over shelf c.origin_of.result)) rows)) c.open_cursor.ensures)

pub returns-in-Ok-clause-free : goal.returns-in-Ok-clause-free
returns-in-Ok-clause-free g c other =
    let prepared = c.requires.prepared in
    let shelf = c.args.machine.now.shelf in
    let there : version_at shelf c.seen-held.result c.args.number ≡ Some prepared.version = ap (λ (h : Held). version_at shelf h c.args.number) c.seen-held.ensures ∙ prepared.seen.there in
    let given : ◌≡◌ {A = Option VersionState} (Some c.in-Some.version.now) (at_place shelf (get_or c.seen-held.result.places (c.args.number - 1) None)) = search rules in
    let same = lent-is shelf c.seen-held.result c.args.number prepared.version c.in-Some.version.now prepared.seen.low there given in
    let rows : rows_left c.in-Ok.cursor (rows_over shelf c.origin_of.result) ≡ answer (plain prepared.version.table) c.args.plan.select =
    ap (rows_left c.in-Ok.cursor) (c.origin_of.ensures.rows shelf prepared.version there ∙ ap (λ (v : VersionState). rows_by c.args.plan.shape c.args.plan v.table) (sym same))
    ∙ c.in-Ok.ensures.rows ∙ ap (λ (v : VersionState). answer (plain v.table) c.args.plan.select) same in
    subst (λ (a : Reply × State). Takes c.args.machine.now a c.open_cursor.result c.open_cursor.new.self)
    (sym (opened-rows c.args.machine.now c.args.at c.args.number c.args.plan prepared (rows_left c.in-Ok.cursor (rows_over shelf c.origin_of.result)) rows)) c.open_cursor.ensures

pub returns-in-Ok-clause-counts : goal.returns-in-Ok-clause-counts
returns-in-Ok-clause-counts g c answered nearest named is =
    let prepared = c.requires.prepared in
    let shelf = c.args.machine.now.shelf in
    let there : version_at shelf c.seen-held.result c.args.number ≡ Some prepared.version = ap (λ (h : Held). version_at shelf h c.args.number) c.seen-held.ensures ∙ prepared.seen.there in
    let given : ◌≡◌ {A = Option VersionState} (Some c.in-Some.version.now) (at_place shelf (get_or c.seen-held.result.places (c.args.number - 1) None)) = search rules in
    let same = lent-is shelf c.seen-held.result c.args.number prepared.version c.in-Some.version.now prepared.seen.low there given in
    counts-seen c.args.machine.now c.args.at c.args.plan.select c.args.workers c.args.number prepared.version c.args.steps.now c.cursor_over.new.steps prepared.seen
    (subst (λ (v : VersionState). IsPlaced v.table) same c.known.ensures)
    (subst (λ (v : VersionState). CountsSearch v.table c.args.plan.select c.args.workers c.args.steps.now c.cursor_over.new.steps) same
    (c.in-Ok.ensures.counts (match-planned prepared.version.table.schema.columns c.args.plan prepared.planned nearest))) named is
