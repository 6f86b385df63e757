-- The body of each answer: an object in JSON, its members in the order of their names' bytes, without white space.
use Rattle.std.specs.Prelude.{ℕ, Bool, true, false, List, ◌++◌, codes}
use Rattle.vec_base.specs.Refusals.{number_of}
use Rattle.vec_text.specs.RefusalTexts.{counted, signed_counted, refusal_text}
use Rattle.row_model.specs.declared.request.Reply.{Reply}
use Rattle.row_model.specs.declared.request.Reply.TheVariants.{Done, Inserted, Changed, Rows, Planned, Session, Cursor, Page, Refused}
use Rattle.row_model.specs.declared.request.Shape.{Shape}
use Rattle.row_model.specs.declared.request.Shape.TheVariants.{Point, Scan, Nearest}
use Rattle.http_replies.specs.JsonTexts.{rows_json}

-- how a SELECT is carried out
abbrev pub shape_name : Shape → List ℕ
shape_name Point = codes "point"
shape_name Scan = codes "scan"
shape_name Nearest = codes "nearest"

abbrev pub truth_json : Bool → List ℕ
truth_json true = codes "true"
truth_json false = codes "false"

abbrev pub body : Reply → List ℕ
body Done = codes "{\"reply\":\"done\"}"
body (Inserted count last) = counted (codes "{\"count\":") count ++ signed_counted (codes ",\"last\":") last ++ codes ",\"reply\":\"inserted\"}"
body (Changed count) = counted (codes "{\"count\":") count ++ codes ",\"reply\":\"changed\"}"
body (Rows rows) = codes "{\"reply\":\"rows\",\"rows\":" ++ rows_json rows ++ codes "}"
body (Planned shape) = codes "{\"plan\":\"" ++ shape_name shape ++ codes "\",\"reply\":\"plan\"}"
body (Session id) = counted (codes "{\"reply\":\"session\",\"session\":") id ++ codes "}"
body (Cursor number) = counted (codes "{\"cursor\":") number ++ codes ",\"reply\":\"cursor\"}"
body (Page rows done) = codes "{\"done\":" ++ truth_json done ++ codes ",\"reply\":\"page\",\"rows\":" ++ rows_json rows ++ codes "}"
body (Refused refusal) = counted (codes "{\"error\":") (number_of refusal) ++ codes ",\"reply\":\"refused\",\"text\":\"" ++ refusal_text refusal ++ codes "\"}"

-- the body of the answer to what is no request
abbrev pub bad_body : ℕ → List ℕ
bad_body status = counted (codes "{\"reply\":\"bad\",\"status\":") status ++ codes "}"
