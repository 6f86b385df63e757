use Rattle.std.proofs.Common.{[], ap, ◌∙◌}
use Rattle.std.specs.FinMap.{get, get-from_entries}
use Rattle.shadow_records.proofs.KeyLaws.{key_total}
use Rattle.shadow_records.specs.Keys.{Tables}
use Rattle.txn_tests.proofs.memory_engine.engine_over.Goals as goal

pub over-requires-clause-empty : goal.over-requires-clause-empty
over-requires-clause-empty c told key = ap (λ (tables : Tables). get tables key) c.in_ok-keeper_over.ensures.empty ∙ get-from_entries key_total [] key
