use Rattle.std.proofs.Common.{sym, ◌∙◌}
use Rattle.table_changes.specs.inner.Turns.{newer_in, older_in}
use Rattle.table_changes.proofs.RecordLaws.{no_record, on_ok, put_newer, remove_older}
use Rattle.table_changes.proofs.record.rewrite.Goals as goal

pub returns-in-Some : goal.returns-in-Some
returns-in-Some c =
    on_ok c.push.result _ _ c.push.ensures.ok
    (put_newer c.args.key.now (older_in c.args.turn.now) (newer_in c.args.turn.now) c.in-Some.bytes c.args.changes.now c.push.new.self
    (sym c.in-Some.is ∙ c.in_ok-bytes.ensures.body) (rw c.in-Some.is at c.in_ok-bytes.ensures.short))

pub returns-then-branch : goal.returns-then-branch
returns-then-branch c =
    on_ok c.push-then-branch.result _ _ c.push-then-branch.ensures.ok
    (remove_older c.args.key.now (older_in c.args.turn.now) (newer_in c.args.turn.now) c.args.changes.now c.push-then-branch.new.self
    (sym c.in_default.is ∙ c.in_ok-bytes.ensures.body) (sym c.in_ok-has_older.ensures ∙ c.if-branch.true))

pub returns : goal.returns
returns c =
    no_record c.args.key.now (older_in c.args.turn.now) (newer_in c.args.turn.now) c.args.changes.now
    (sym c.in_default.is ∙ c.in_ok-bytes.ensures.body) (sym c.in_ok-has_older.ensures ∙ c.if-branch.false)
