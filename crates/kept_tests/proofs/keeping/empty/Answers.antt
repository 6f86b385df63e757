use Rattle.std.proofs.Common.{rules, ◌≡◌, []}
use Rattle.shadow_keeper.specs.Keeping.{tables_of}
use Rattle.shadow_keeper.specs.Memory.{memory_tables}
use Rattle.kept_tests.proofs.KeptLaws.{none_kept}
use Rattle.kept_tests.proofs.keeping.empty.Goals as goal

pub returns : goal.returns
returns c =
    let are : memory_tables c.in_ok-new.field-0 ≡ tables_of [] = search rules in
    none_kept 1 (memory_tables c.in_ok-new.field-0) are
