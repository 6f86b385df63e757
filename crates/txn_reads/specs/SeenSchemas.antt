-- The schema of a table that a session sees.
use Rattle.std.specs.Prelude.{ℕ, List, Option, option_map}
use Rattle.row_model.specs.Step.{found}
use Rattle.row_model.specs.declared.schema.Schema.{Schema}
use Rattle.row_model.specs.declared.state.Session.{Session}
use Rattle.row_model.specs.declared.state.State.{State}

-- the one of the table of the name, where there is one
abbrev pub schema_found : List ℕ → State → Session → Option Schema
schema_found name state session = option_map (λ named. named.table.schema) (found name state session)
