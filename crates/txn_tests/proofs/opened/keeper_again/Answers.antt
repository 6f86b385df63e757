use Rattle.std.proofs.Common.{◌≡◌, ℕ, true, List, ap, ◌∙◌}
use Rattle.std.specs.FinMap.{is_sorted}
use Rattle.vec_base.specs.declared.shadow.ShadowKey.{ShadowKey}
use Rattle.shadow_keeper.specs.Memory.{memory_tables}
use Rattle.shadow_records.specs.Keys.{key_cmp}
use Rattle.txn_tests.proofs.KeeperLaws.{entries_rise}
use Rattle.txn_tests.proofs.opened.keeper_again.Goals as goal

pub keeper_of-requires : goal.keeper_of-requires
keeper_of-requires c = ap (λ (records : List (ShadowKey × List ℕ)). is_sorted key_cmp records) c.in_ok-tables.ensures ∙ entries_rise (memory_tables c.args.keeper.now)
