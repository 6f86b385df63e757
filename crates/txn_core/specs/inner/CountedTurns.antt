-- What holds of the reply that a turn comes to.
use Rattle.row_model.specs.declared.request.Reply.{Reply}
use Rattle.txn_sessions.specs.declared.turn.Turn.{Turn}
use Rattle.txn_sessions.specs.declared.turn.Turn.TheVariants.{Answered, Commits}

-- of a commit it holds of each reply that it may get
abbrev pub MeetsTurn : (Reply → Type 0) → Turn → Type 0
MeetsTurn holds (Answered reply) = holds reply
MeetsTurn holds (Commits held reply ending) = (result : Reply) → holds result
