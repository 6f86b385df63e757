-- The schema of a table that a session sees.
use Rattle.std.specs.Prelude.{ℕ, List, Option, Some, None}
use Rattle.row_model.specs.Machine.{session_of}
use Rattle.row_model.specs.declared.schema.Schema.{Schema}
use Rattle.row_model.specs.declared.state.Session.{Session}
use Rattle.row_model.specs.declared.state.State.{State}
use Rattle.txn_reads.specs.SeenSchemas.{schema_found}

abbrev pub schema_where_open : List ℕ → State → Option Session → Option Schema
schema_where_open name state None = None
schema_where_open name state (Some session) = schema_found name state session

-- none where the session is not open, or sees no table of the name
abbrev pub seen_schema : State → ℕ → List ℕ → Option Schema
seen_schema state id name = schema_where_open name state (session_of id state.sessions)
