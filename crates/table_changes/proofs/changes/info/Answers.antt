use Rattle.table_changes.specs.inner.Turns.{newer_in, older_in}
use Rattle.table_changes.proofs.RecordLaws.{info_whole, on_ok}
use Rattle.table_changes.proofs.changes.info.Goals as goal

pub returns : goal.returns
returns c =
    on_ok c.rewrite.result _ _ c.rewrite.ensures
    (info_whole c.args.number (older_in c.args.turn.now) (newer_in c.args.turn.now) c.args.changes.now c.name_record.new.changes c.rewrite.new.changes c.in_ok-name_record.ensures)
