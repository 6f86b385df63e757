use Rattle.std.proofs.Common.{rules, ◌≡◌, ap, ◌∙◌}
use Rattle.std.specs.FinMap.{entries, is_sorted}
use Rattle.shadow_keeper.specs.Memory.{memory_tables}
use Rattle.shadow_records.specs.Keys.{key_cmp}
use Rattle.kept_tests.proofs.KeptLaws.{entries_rise}
use Rattle.kept_tests.proofs.keeping.built.Goals as goal

pub attach-requires : goal.attach-requires
attach-requires c =
    let are : c.in_ok-records.records ≡ entries (memory_tables c.args.keeper.now) = search rules in
    record { sorted = ap (is_sorted key_cmp) are ∙ entries_rise (memory_tables c.args.keeper.now) }
