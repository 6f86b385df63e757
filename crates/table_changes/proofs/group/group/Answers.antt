use Rattle.std.proofs.Common.{◌≡◌, ◌∙◌, List, ap, arith, subst}
use Rattle.row_model.specs.declared.schema.Column.{Column}
use Rattle.row_model.specs.declared.schema.Schema.{Schema}
use Rattle.vec_base.specs.declared.shadow.ShadowKey.{ShadowKey}
use Rattle.shadow_records.specs.Keys.{is_key}
use Rattle.table_changes.specs.inner.Groups.{group_count}
use Rattle.table_changes.specs.inner.Steps.{TurnsKeys}
use Rattle.table_changes.specs.inner.Turns.{newer_in, older_in}
use Rattle.table_changes.proofs.GroupLaws.{group_end}
use Rattle.table_changes.proofs.KeySetLaws.{group_below, group_more, group_none}
use Rattle.table_changes.proofs.RecordLaws.{no_keys}
use Rattle.table_changes.proofs.group.group.Goals as goal

pub loop-before-init : goal.loop-before-init
loop-before-init c = no_keys (group_below c.args.number c.args.kind c.args.a.now 0) (older_in c.args.turn.now) (newer_in c.args.turn.now) c.args.changes.now (group_none c.args.number c.args.kind c.args.a.now)

pub loop-before-preserved : goal.loop-before-preserved
loop-before-preserved c =
    let P : ShadowKey → Type 0 = λ key. TurnsKeys (λ k. is_key k key) (older_in c.args.turn.now) (newer_in c.args.turn.now) c.loop-before.changes c.record.new.changes in
    group_more c.args.number c.args.kind c.args.a.now c.loop-before.before (older_in c.args.turn.now) (newer_in c.args.turn.now) c.args.changes.now c.loop-before.changes c.record.new.changes
    c.loop-before.invariant (subst P c.group_key-key.ensures c.in_ok-record.ensures)

pub returns : goal.returns
returns c =
    let low = c.loop-before-test.false in
    let high = c.loop-before.auto.before-end in
    let end : c.loop-before.before ≡ c.group_count-count.result = omega (arith, low, high) in
    let columns : c.as_slice.result.now ≡ c.table.result.now.table.schema.columns = c.as_slice.ensures ∙ ap (λ (s : Schema). s.columns) c.schema.ensures in
    group_end c.args.turn.now c.table.result.now.table.schema c.args.number c.args.kind c.args.a.now c.loop-before.before c.args.changes.now c.loop-before.changes c.table.ensures c.requires.kind
    (end ∙ c.group_count-count.ensures.count ∙ ap (λ (cs : List Column). group_count cs c.args.kind) columns) c.loop-before.invariant
