use Rattle.std.proofs.Common.{◌∙◌, List, ℕ, sym, subst}
use Rattle.table_changes.specs.inner.Touching.{HoldsUnits}
use Rattle.table_changes.proofs.RecordLaws.{on_ok}
use Rattle.table_changes.proofs.UnitLaws.{gone_record, holds_units, patched_record}
use Rattle.table_changes.proofs.patch.patch.Goals as goal

pub returns-then-not-is_some : goal.returns-then-not-is_some
returns-then-not-is_some c =
    on_ok c.remove.result _ _ c.remove.ensures
    (gone_record c.args.older.now.table c.args.newer.now.table c.args.kept.now c.args.key.now c.args.touched.now.chunk c.args.changes.now c.remove.new.changes c.requires.of c.requires.chunk
    (sym c.slots.ensures.there ∙ (sym c.is_some.ensures ∙ c.if-not-is_some.true)))

pub patch_units-requires-clause-units : goal.patch_units-requires-clause-units
patch_units-requires-clause-units c =
    let P : List ℕ → Type 0 = λ units. HoldsUnits c.args.older.now.table c.args.newer.now.table c.args.touched.now.chunk c.args.kept.now units in
    subst P (sym c.touched_units-units.ensures) (holds_units c.args.older.now.table c.args.newer.now.table c.args.touched.now c.requires.touched c.args.kept.now)

pub returns : goal.returns
returns c =
    on_ok c.patch_units.result _ _ c.patch_units.ensures
    (patched_record c.args.older.now.table c.args.newer.now.table c.args.kept.now c.args.key.now c.args.touched.now.chunk c.args.changes.now c.fill.new.changes c.patch_units.new.changes
    c.requires.follows.schema c.requires.of c.requires.chunk (sym c.slots.ensures.there ∙ (sym c.is_some.ensures ∙ c.if-not-is_some.false)) c.in_ok-fill.ensures)
