use Rattle.table_changes.specs.inner.Turns.{newer_in, older_in}
use Rattle.table_changes.proofs.RecordLaws.{all_kinds, on_ok}
use Rattle.table_changes.proofs.changes.all.Goals as goal

pub returns : goal.returns
returns c =
    on_ok c.rows.result _ _ c.rows.ensures
    (all_kinds c.args.number (older_in c.args.turn.now) (newer_in c.args.turn.now) c.args.changes.now c.info.new.changes c.chunks.new.changes c.rows.new.changes c.in_ok-info.ensures c.in_ok-chunks.ensures)
