use Rattle.std.proofs.Common.{[], ap, ◌∙◌}
use Rattle.std.specs.FinMap.{get, get-from_entries}
use Rattle.shadow_records.proofs.KeyLaws.{key_total}
use Rattle.shadow_records.specs.Keys.{Tables}
use Rattle.vec_shell.proofs.engine_session.EngineSession.open.Goals as goal

pub over-engine-requires-clause-empty : goal.over-engine-requires-clause-empty
over-engine-requires-clause-empty c told key = ap (λ (tables : Tables). get tables key) (c.in_ok-new.ensures {u = tt}).empty ∙ get-from_entries key_total [] key
