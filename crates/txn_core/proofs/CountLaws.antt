-- What is counted, handed on from a session's turn to the engine.
use Rattle.std.proofs.Common.{◌≡◌, ℕ, true, None, Some, sym, ◌∙◌, subst}
use Rattle.vec_base.specs.declared.steps.Steps.{Steps}
use Rattle.row_model.specs.Machine.{session_of}
use Rattle.row_model.specs.declared.request.Reply.{Reply}
use Rattle.row_model.specs.declared.state.Session.{Session}
use Rattle.row_model.specs.declared.state.State.{State}
use Rattle.row_model.specs.declared.statement.Statement.{Statement}
use Rattle.row_model.specs.declared.statement.Statement.TheVariants.{Begin, Commit, Create, Delete, Drop, Explain, Insert, Release, Rollback, RollbackTo, Savepoint, Select, Update}
use Rattle.txn_commits.specs.Ending.{Finishes}
use Rattle.txn_commits.specs.Keeping.{Meanings}
use Rattle.txn_core.specs.Counting.{CountsStatement, InSession}
use Rattle.txn_core.specs.Free.{needs_no_memory}
use Rattle.txn_core.specs.inner.CountedTurns.{MeetsTurn}
use Rattle.txn_reads.proofs.SeenLaws.{some-is}
use Rattle.txn_sessions.specs.Lookups.{IsOfId}
use Rattle.txn_sessions.specs.Seen.{session_at, state_of}
use Rattle.txn_sessions.specs.declared.machine.Machine.{Machine}
use Rattle.txn_sessions.specs.declared.turn.Turn.{Turn}
use Rattle.txn_sessions.specs.declared.turn.Turn.TheVariants.{Answered, Commits}

pub meets_any : (holds : Reply → Type 0) (turn : Turn) → ((reply : Reply) → holds reply) → MeetsTurn holds turn
meets_any holds (Answered reply) all = all reply
meets_any holds (Commits held reply ending) all = all

pub meets_more : (holds more : Reply → Type 0) (turn : Turn) → ((reply : Reply) → holds reply → more reply) → MeetsTurn holds turn → MeetsTurn more turn
meets_more holds more (Answered reply) then met = then reply met
meets_more holds more (Commits held reply ending) then met = λ result. then result (met result)

-- nothing is said of a statement that takes no memory
uncounted : (state : State) (session : Session) (statement : Statement) (workers : ℕ) (reply : Reply) (before after : Steps) → needs_no_memory statement ≡ true → CountsStatement state session statement workers reply before after
uncounted state session (Begin immediate) workers reply before after free = tt
uncounted state session Commit workers reply before after free = tt
uncounted state session Rollback workers reply before after free = tt
uncounted state session (RollbackTo name) workers reply before after free = tt
uncounted state session (Savepoint name) workers reply before after free = tt
uncounted state session (Release name) workers reply before after free = tt
uncounted state session (Explain select) workers reply before after free = tt
uncounted state session (Create name schema) workers reply before after free = tt
uncounted state session (Drop name) workers reply before after free = tt
uncounted state session (Insert insert) workers reply before after free = tt
uncounted state session (Update update) workers reply before after free = tt
uncounted state session (Delete delete) workers reply before after free = tt
uncounted state session (Select select) workers reply before after free = absurd cc

pub free_turn : (state : State) (session : Session) (statement : Statement) (workers : ℕ) (before after : Steps) (turn : Turn) → needs_no_memory statement ≡ true →
    MeetsTurn (λ reply. CountsStatement state session statement workers reply before after) turn
free_turn state session statement workers before after turn free =
    meets_any (λ reply. CountsStatement state session statement workers reply before after) turn (λ reply. uncounted state session statement workers reply before after free)

-- the session of the id
pub in_session : (machine : Machine) (id at : ℕ) (holds : Session → Type 0) → IsOfId id machine.sessions.items at → holds (session_at machine at) → InSession (state_of machine) id holds
in_session machine id at holds found there = λ session is. subst holds (some-is (session_at machine at) session (sym (found.is machine.shelf) ∙ is)) there

none-some : {A B : Type 0} (a : A) → None ≡ Some a → B
none-some a h = absurd cc

pub nowhere : (state : State) (id : ℕ) (holds : Session → Type 0) → session_of id state.sessions ≡ None → InSession state id holds
nowhere state id holds none = λ session is. none-some session (sym none ∙ is)

pub turn_in : (machine : Machine) (id at : ℕ) (statement : Statement) (workers : ℕ) (before after : Steps) (turn : Turn) → IsOfId id machine.sessions.items at →
    MeetsTurn (λ reply. CountsStatement (state_of machine) (session_at machine at) statement workers reply before after) turn →
    MeetsTurn (λ reply. InSession (state_of machine) id (λ s. CountsStatement (state_of machine) s statement workers reply before after)) turn
turn_in machine id at statement workers before after turn found met =
    meets_more (λ reply. CountsStatement (state_of machine) (session_at machine at) statement workers reply before after)
    (λ reply. InSession (state_of machine) id (λ s. CountsStatement (state_of machine) s statement workers reply before after)) turn
    (λ reply counts. in_session machine id at (λ s. CountsStatement (state_of machine) s statement workers reply before after) found counts) met

-- what holds of a turn holds of the reply that it gets in the end
pub finished : {K : Type 0} (M : Meanings K) (holds : Reply → Type 0) (old new : Machine) (before after : K) (turn : Turn) (result : Reply) → MeetsTurn holds turn → Finishes M old before turn result new after → holds result
finished M holds old new before after (Answered reply) result met f = subst holds (sym f.0) met
finished M holds old new before after (Commits held reply ending) result met f = met result
