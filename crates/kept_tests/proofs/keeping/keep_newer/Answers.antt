use Rattle.std.proofs.Common.{rules, ◌≡◌, Some}
use Rattle.shadow_keeper.specs.Memory.{memory_tables}
use Rattle.shadow_records.specs.Batches.{applied}
use Rattle.kept_tests.proofs.KeptLaws.{newer_kept}
use Rattle.kept_tests.proofs.keeping.keep_newer.Goals as goal

pub returns : goal.returns
returns c =
    let old = memory_tables c.args.keeper.now in
    let are : memory_tables c.make.new.keeper ≡ applied c.in_ok-changes_over.field-0 old = search rules in
    newer_kept 1 (Some c.args.newer.now.table) c.in_ok-changes_over.field-0 old (memory_tables c.make.new.keeper) are (c.in_ok-changes_over.ensures.turns old c.requires.kept)
