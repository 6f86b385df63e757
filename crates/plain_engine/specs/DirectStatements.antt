-- Statements that need no transaction and no plan.
use Rattle.std.specs.Prelude.{Bool, true, false}
use Rattle.row_model.specs.declared.statement.Statement.{Statement}
use Rattle.row_model.specs.declared.statement.Statement.TheVariants.{Create, Drop, Insert, Update, Delete, Select}

abbrev pub is_direct : Statement → Bool
is_direct (Create name schema) = true
is_direct (Drop name) = true
is_direct (Insert insert) = true
is_direct (Update update) = true
is_direct (Delete delete) = true
is_direct (Select select) = true
is_direct _ = false
