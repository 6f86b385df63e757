use Rattle.std.proofs.Common.{◌∙◌, rules, w64, SFits}
use Rattle.std.proofs.lemmas.Int.{to_z-of_z}
use Rattle.table_changes.specs.inner.Turns.{newer_in, older_in}
use Rattle.table_changes.proofs.GroupLaws.{chunk_whole}
use Rattle.table_changes.proofs.RecordLaws.{on_ok}
use Rattle.table_changes.proofs.changes.chunk_groups.Goals as goal

pub returns : goal.returns
returns c =
    let fits : SFits w64 c.from-a.result = search rules in
    on_ok c.group-3.result _ _ c.group-3.ensures
    (chunk_whole c.args.number c.args.chunk _ (older_in c.args.turn.now) (newer_in c.args.turn.now) c.args.changes.now c.group.new.changes c.group-2.new.changes c.group-3.new.changes (to_z-of_z w64 c.from-a.result fits ∙ c.from-a.ensures) c.in_ok-group.ensures c.in_ok-group-2.ensures)
