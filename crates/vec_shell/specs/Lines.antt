-- The lines that the shell writes for a reply.
use Rattle.std.specs.Prelude.{ℕ, List, [], ◌++◌, length, codes}
use Rattle.std.specs.List.{flat_map}
use Rattle.vec_base.specs.declared.value.Value.{Value}
use Rattle.vec_base.specs.Refusals.{number_of}
use Rattle.vec_text.specs.SeparatedTexts.{separated}
use Rattle.vec_text.specs.RefusalTexts.{counted, signed_counted, refusal_text}
use Rattle.vec_text.specs.ValueTexts.{value_text}
use Rattle.row_model.specs.declared.request.Reply.{Reply}
use Rattle.row_model.specs.declared.request.Reply.TheVariants.{Done, Inserted, Changed, Rows, Planned, Session, Cursor, Page, Refused}
use Rattle.row_model.specs.declared.request.Shape.{Shape}
use Rattle.row_model.specs.declared.request.Shape.TheVariants.{Point, Scan, Nearest}

-- the values with `|` between them
abbrev pub row_line : List Value → List ℕ
row_line values = separated (codes "|") value_text values ++ codes "\n"

-- how a SELECT is carried out
abbrev pub shape_text : Shape → List ℕ
shape_text Point = codes "plan point\n"
shape_text Scan = codes "plan scan\n"
shape_text Nearest = codes "plan nearest\n"

-- The lines of a reply, each with a line feed. That a session was opened is not written, and the shell has no cursors.
abbrev pub lines : Reply → List ℕ
lines Done = codes "ok\n"
lines (Inserted count last) = counted (codes "ok inserted ") count ++ signed_counted (codes " last ") last ++ codes "\n"
lines (Changed count) = counted (codes "ok changed ") count ++ codes "\n"
lines (Rows rows) = flat_map row_line rows ++ counted (codes "rows ") (length rows) ++ codes "\n"
lines (Planned shape) = shape_text shape
lines (Refused refusal) = counted (codes "error ") (number_of refusal) ++ codes " " ++ refusal_text refusal ++ codes "\n"
lines (Session id) = []
lines (Cursor number) = []
lines (Page rows done) = []

abbrev pub lines_of : List Reply → List ℕ
lines_of replies = flat_map lines replies
