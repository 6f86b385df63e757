use Rattle.std.proofs.Common.{◌∙◌, Some, ap, subst, sym}
use Rattle.std.specs.FinMap.{is_sorted}
use Rattle.shadow_keeper.specs.Keeping.{tables_of}
use Rattle.shadow_records.specs.Keys.{key_cmp}
use Rattle.shadow_records.specs.StandsFor.{IsDamaged}
use Rattle.table_attach.specs.Attaching.{Records}
use Rattle.shelf_attach.specs.inner.Building.{Adds, IsBuilt, IsRefused, tables_in}
use Rattle.shelf_attach.proofs.StageLaws.{built_damaged, built_more, built_none, fewer_left, group_rises}
use Rattle.shelf_attach.proofs.attach.attach_all.Goals as goal

pub loop-first-init : goal.loop-first-init
loop-first-init c =
    let none = c.no_tables-built.ensures in
    subst (λ (rest : Records). IsBuilt c.args.records.now rest c.no_tables-built.result) (sym c.as_slice-rest.ensures) (built_none c.no_tables-built.result none.held c.args.records.now none.vectors none.sides)

pub add-requires-clause-sorted : goal.add-requires-clause-sorted
add-requires-clause-sorted c =
    ap (is_sorted key_cmp) c.split_at.ensures.front ∙ group_rises c.args.records.now c.loop-first.rest.now c.loop-first.built c.group_len.result c.requires.sorted c.loop-first.invariant

pub loop-first-smaller : goal.loop-first-smaller
loop-first-smaller c =
    let begins = (c.in-Some.ensures {u = tt}).cases.0 in
    let fewer = fewer_left c.loop-first.rest.now c.in-Some.first.now c.in-Some.field-0-1.now c.group_len.result begins c.group_len.ensures.behind in
    rw c.split_at.ensures.back fewer

pub loop-first-preserved : goal.loop-first-preserved
loop-first-preserved c =
    let begins = (c.in-Some.ensures {u = tt}).cases.0 in
    let rest = c.loop-first.rest.now in
    let adds = subst (λ (group : Records). Adds c.loop-first.built c.in-Some.first.now.0.table group c.add.new.built) c.split_at.ensures.front (c.in-Ok.ensures {u = tt}).added in
    subst (λ (left : Records). IsBuilt c.args.records.now left c.add.new.built) (sym c.split_at.ensures.back)
    (built_more rest c.in-Some.first.now c.in-Some.field-0-1.now c.group_len.result begins c.group_len.ensures.behind c.args.records.now c.loop-first.built c.requires.sorted c.loop-first.invariant c.group_len.ensures.group c.add.new.built adds)

pub returns-in-Err-clause-damaged : goal.returns-in-Err-clause-damaged
returns-in-Err-clause-damaged c number is =
    let begins = (c.in-Some.ensures {u = tt}).cases.0 in
    let rest = c.loop-first.rest.now in
    let both = (c.in-Err.ensures {u = tt}).damaged number is in
    let refused = subst (λ (group : Records). IsRefused (tables_in c.loop-first.built) c.in-Some.first.now.0.table group) c.split_at.ensures.front both.1 in
    subst (λ n. IsDamaged (tables_of c.args.records.now) (Some n)) (sym both.0)
    (built_damaged rest c.in-Some.first.now c.in-Some.field-0-1.now c.group_len.result begins c.group_len.ensures.behind c.args.records.now c.loop-first.built c.requires.sorted c.loop-first.invariant c.group_len.ensures.group refused)
