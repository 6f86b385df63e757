use Rattle.table_changes.specs.inner.Turns.{newer_in, older_in}
use Rattle.table_changes.proofs.GroupLaws.{row_whole}
use Rattle.table_changes.proofs.RecordLaws.{on_ok}
use Rattle.table_changes.proofs.changes.row_records.Goals as goal

pub returns : goal.returns
returns c =
    on_ok c.group-3.result _ _ c.group-3.ensures
    (row_whole c.args.number c.args.rowid.now (older_in c.args.turn.now) (newer_in c.args.turn.now) c.args.changes.now c.group.new.changes c.group-2.new.changes c.group-3.new.changes c.in_ok-group.ensures c.in_ok-group-2.ensures)
