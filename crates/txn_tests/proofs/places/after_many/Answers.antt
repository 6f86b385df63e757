use Rattle.std.proofs.Common.{[], ap, ◌∙◌}
use Rattle.std.specs.FinMap.{get, get-from_entries}
use Rattle.shadow_records.proofs.KeyLaws.{key_total}
use Rattle.shadow_records.specs.Keys.{Tables}
use Rattle.txn_tests.proofs.places.after_many.Goals as goal

pub begin-machine-requires-clause-empty : goal.begin-machine-requires-clause-empty
begin-machine-requires-clause-empty c told key = ap (λ (tables : Tables). get tables key) c.in-Ok.ensures.empty ∙ get-from_entries key_total [] key
