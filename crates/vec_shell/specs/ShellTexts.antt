-- What the shell makes of a text.
use Rattle.std.specs.Prelude.{ℕ, List, [], Result, Ok, Err}
use Rattle.vec_base.specs.declared.refusal.Refusal.{Refusal}
use Rattle.row_model.specs.declared.statement.Statement.{Statement}
use Rattle.sql_reader.specs.StatementReading.{SpellsStatement, IsRefusal}

-- The text spells the statement, where no parameters are given; or it spells none, and gets the refusal of the reading.
abbrev pub Reads : List ℕ → Result Statement Refusal → Type 0
Reads text (Ok statement) = SpellsStatement text [] statement
Reads text (Err refusal) = IsRefusal text [] refusal
