use Rattle.std.proofs.Common.{◌∙◌, sym}
use Rattle.table_changes.proofs.UnitLaws.{remove_none, remove_there}
use Rattle.table_changes.proofs.patch.remove.Goals as goal

pub returns-in_ok-push : goal.returns-in_ok-push
returns-in_ok-push c =
    remove_there c.args.older.now.table c.args.kept.now c.args.key.now c.args.chunk c.requires.of c.requires.chunk c.args.changes.now c.push.new.self
    (sym c.slots.ensures.there ∙ (sym c.is_some.ensures ∙ c.if-is_some.true)) c.in_ok-push.ensures.ok

pub returns-else-is_some : goal.returns-else-is_some
returns-else-is_some c =
    remove_none c.args.older.now.table c.args.kept.now c.args.key.now c.args.chunk c.requires.of c.requires.chunk c.args.changes.now
    (sym c.slots.ensures.there ∙ (sym c.is_some.ensures ∙ c.if-is_some.false))
