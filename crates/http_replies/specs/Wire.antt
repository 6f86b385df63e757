-- The bytes of whole answers: the status line, the head's fields, an empty line and the body.
use Rattle.std.specs.Prelude.{ℕ, List, ◌++◌, length, codes, ⊤}
use Rattle.vec_text.specs.RefusalTexts.{counted}
use Rattle.row_model.specs.declared.request.Reply.{Reply}
use Rattle.row_model.specs.declared.request.Reply.TheVariants.{Done, Inserted, Changed, Rows, Planned, Session, Cursor, Page, Refused}
use Rattle.http_replies.specs.Statuses.{phrase, reply_status}
use Rattle.http_replies.specs.Bodies.{body, bad_body}

-- the head of an answer with a status and a body of this length
abbrev pub head : ℕ → ℕ → List ℕ
head status size =
    counted (codes "HTTP/1.1 ") status ++ codes " " ++ phrase status
    ++ counted (codes "\r\nContent-Type: application/json\r\nContent-Length: ") size
    ++ codes "\r\nConnection: close\r\n\r\n"

abbrev pub answer : ℕ → List ℕ → List ℕ
answer status bytes = head status (length bytes) ++ bytes

-- the answer with a reply
abbrev pub wire : Reply → List ℕ
wire reply = answer (reply_status reply) (body reply)

-- the answer to what is no request
abbrev pub bad_wire : ℕ → List ℕ
bad_wire status = answer status (bad_body status)

-- the reply has no rows
abbrev pub IsSmall : Reply → Type 0
IsSmall Done = ⊤
IsSmall (Inserted count last) = ⊤
IsSmall (Changed count) = ⊤
IsSmall (Rows rows) = ⊥
IsSmall (Planned shape) = ⊤
IsSmall (Session id) = ⊤
IsSmall (Cursor number) = ⊤
IsSmall (Page rows done) = ⊥
IsSmall (Refused refusal) = ⊤
