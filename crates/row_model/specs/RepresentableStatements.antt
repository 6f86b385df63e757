-- Statements whose values their types in memory can hold.
use Rattle.std.specs.Prelude.{List, Option, Some, None, ⊤}
use Rattle.std.specs.List.{AllByRecursion}
use Rattle.vec_base.specs.Representable.{IsRepresentable}
use Rattle.vec_base.specs.declared.value.Value.{Value}
use Rattle.row_model.specs.declared.statement.Assign.{Assign}
use Rattle.row_model.specs.declared.statement.Constraint.{Constraint}
use Rattle.row_model.specs.declared.statement.Select.{Select as SelectRows}
use Rattle.row_model.specs.declared.statement.Statement.{Statement}
use Rattle.row_model.specs.declared.statement.Statement.TheVariants.{Insert, Update, Delete, Select, Explain}
use Rattle.row_model.specs.declared.statement.Test.{Test}
use Rattle.row_model.specs.declared.statement.Test.TheVariants.{Compare, Member, Match}

abbrev pub AreRepresentable : List Value → Type 0
AreRepresentable values = AllByRecursion IsRepresentable values

abbrev pub IsRepresentableTest : Test → Type 0
IsRepresentableTest (Compare op value) = IsRepresentable value
IsRepresentableTest (Member values) = AreRepresentable values
IsRepresentableTest (Match value) = IsRepresentable value

abbrev pub IsRepresentableTerm : Constraint → Type 0
IsRepresentableTerm term = IsRepresentableTest term.test

abbrev pub IsRepresentableAssign : Assign → Type 0
IsRepresentableAssign set = IsRepresentable set.value

abbrev pub IsRepresentableLimit : Option Value → Type 0
IsRepresentableLimit None = ⊤
IsRepresentableLimit (Some value) = IsRepresentable value

pub record IsRepresentableSelect (select : SelectRows) : Type 0 where
  pub where_terms : AllByRecursion IsRepresentableTerm select.where_terms
  pub limit : IsRepresentableLimit select.limit

abbrev pub IsRepresentableStatement : Statement → Type 0
IsRepresentableStatement (Insert insert) = AllByRecursion AreRepresentable insert.rows
IsRepresentableStatement (Update update) = AllByRecursion IsRepresentableAssign update.sets × AllByRecursion IsRepresentableTerm update.where_terms
IsRepresentableStatement (Delete delete) = AllByRecursion IsRepresentableTerm delete.where_terms
IsRepresentableStatement (Select select) = IsRepresentableSelect select
IsRepresentableStatement (Explain select) = IsRepresentableSelect select
IsRepresentableStatement other = ⊤
