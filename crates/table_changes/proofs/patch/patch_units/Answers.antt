use Rattle.std.proofs.Common.{get_or}
use Rattle.table_changes.proofs.UnitLaws.{item_at, unit_more, units_end}
use Rattle.table_changes.proofs.patch.patch_units.Goals as goal

pub loop-at-preserved : goal.loop-at-preserved
loop-at-preserved c =
    unit_more c.args.older.now.table c.args.newer.now.table c.known.ensures c.known-2.ensures c.requires.schema c.args.kept.now c.requires.there c.args.key.now c.args.chunk
    c.args.units.now c.loop-at.at-index (get_or c.args.units.now c.loop-at.at-index 0) c.args.changes.now c.loop-at.changes c.patch_unit.new.changes c.requires.units c.loop-at-test.true
    (item_at c.args.units.now c.loop-at.at-index 0 (get_or c.args.units.now c.loop-at.at-index 0) c.loop-at-test.true) c.loop-at.invariant c.in_ok-patch_unit.ensures

pub returns : goal.returns
returns c =
    units_end c.args.older.now.table c.args.newer.now.table c.known.ensures c.known-2.ensures c.requires.schema c.args.kept.now c.requires.there c.args.key.now c.args.chunk
    c.args.units.now c.loop-at.at-index c.args.changes.now c.loop-at.changes c.requires.units c.loop-at-test.false c.loop-at.invariant
