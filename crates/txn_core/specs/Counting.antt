-- What a statement counts.
use Rattle.std.specs.Prelude.{◌≡◌, ℕ, Some, ⊤}
use Rattle.vec_base.specs.declared.steps.Steps.{Steps}
use Rattle.row_model.specs.Machine.{session_of}
use Rattle.row_model.specs.declared.request.Reply.{Reply}
use Rattle.row_model.specs.declared.state.Session.{Session}
use Rattle.row_model.specs.declared.state.State.{State}
use Rattle.row_model.specs.declared.statement.Statement.{Statement}
use Rattle.row_model.specs.declared.statement.Statement.TheVariants.{Select}
use Rattle.txn_reads.specs.Searches.{Counts}

-- something holds of the open session of an id
abbrev pub InSession : State → ℕ → (Session → Type 0) → Type 0
InSession state id holds = (session : Session) → session_of id state.sessions ≡ Some session → holds session

-- nothing is said of statements other than SELECT
abbrev pub CountsStatement : State → Session → Statement → ℕ → Reply → Steps → Steps → Type 0
CountsStatement state session (Select select) workers reply before after = Counts state session select workers reply before after
CountsStatement state session _ workers reply before after = ⊤
