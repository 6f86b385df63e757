-- Statements as texts give them: names are names, the lists that the grammar fills are filled, and no parameter has a number
-- above the greatest.
use Rattle.std.specs.Prelude.{ℕ, Bool, true, ◌&&◌, nat_le, List, Option, Some, None}
use Rattle.std.specs.List.{list_all}
use Rattle.vec_base.specs.Words.{is_name}
use Rattle.vec_base.specs.declared.limits.TheConstants.{MOST_PARAMETERS}
use Rattle.row_model.specs.declared.statement.Items.{Items}
use Rattle.row_model.specs.declared.statement.Items.TheVariants as items
use Rattle.row_model.specs.WellFormed.{is_filled}
use Rattle.vec0_columns.specs.ColumnGrammar.{has_name}
use Rattle.sql_reader.specs.declared.given.Given.{Given}
use Rattle.sql_reader.specs.declared.given.Given.TheVariants as givens
use Rattle.sql_reader.specs.declared.given.Group.{Group}
use Rattle.sql_reader.specs.declared.given.GivenAssign.{GivenAssign}
use Rattle.sql_reader.specs.declared.given.GivenTest.{GivenTest}
use Rattle.sql_reader.specs.declared.given.GivenTest.TheVariants as tests
use Rattle.sql_reader.specs.declared.given.GivenTerm.{GivenTerm}
use Rattle.sql_reader.specs.declared.given.GivenSelect.{GivenSelect}
use Rattle.sql_reader.specs.declared.given.GivenStatement.{GivenStatement}
use Rattle.sql_reader.specs.declared.given.GivenStatement.TheVariants as statements

abbrev pub are_names : List (List ℕ) → Bool
are_names names = list_all is_name names && is_filled names

abbrev pub is_well_formed_value : Given → Bool
is_well_formed_value (givens.Value v) = true
is_well_formed_value (givens.Parameter n) = nat_le n MOST_PARAMETERS
is_well_formed_value (givens.Int8Text place text) = true
is_well_formed_value (givens.Int8Parameter n) = nat_le n MOST_PARAMETERS
is_well_formed_value (givens.BitsParameter n) = nat_le n MOST_PARAMETERS

-- one value or more
abbrev pub are_well_formed_values : List Given → Bool
are_well_formed_values values = list_all is_well_formed_value values && is_filled values

abbrev pub is_well_formed_group : Group → Bool
is_well_formed_group group = are_well_formed_values group.values

abbrev pub is_well_formed_limit : Option Given → Bool
is_well_formed_limit None = true
is_well_formed_limit (Some given) = is_well_formed_value given

abbrev pub is_well_formed_test : GivenTest → Bool
is_well_formed_test (tests.Compare op given) = is_well_formed_value given
is_well_formed_test (tests.Member members) = are_well_formed_values members
is_well_formed_test (tests.Match given) = is_well_formed_value given

abbrev pub is_well_formed_term : GivenTerm → Bool
is_well_formed_term term = is_name term.column && is_well_formed_test term.test

abbrev pub is_well_formed_set : GivenAssign → Bool
is_well_formed_set set = is_name set.column && is_well_formed_value set.value

abbrev pub are_well_formed_items : Items → Bool
are_well_formed_items items.All = true
are_well_formed_items (items.Named names) = are_names names

abbrev pub is_well_formed_select : GivenSelect → Bool
is_well_formed_select select = is_name select.table && (are_well_formed_items select.items && (list_all is_well_formed_term select.where_terms && is_well_formed_limit select.limit))

abbrev pub is_well_formed : GivenStatement → Bool
is_well_formed (statements.Create table columns) = is_name table && list_all has_name columns
is_well_formed (statements.Drop table) = is_name table
is_well_formed (statements.Insert table names groups) = is_name table && (are_names names && (list_all is_well_formed_group groups && is_filled groups))
is_well_formed (statements.Update table sets terms) = is_name table && (list_all is_well_formed_set sets && (is_filled sets && list_all is_well_formed_term terms))
is_well_formed (statements.Delete table terms) = is_name table && list_all is_well_formed_term terms
is_well_formed (statements.Select select) = is_well_formed_select select
is_well_formed (statements.Explain select) = is_well_formed_select select
is_well_formed (statements.Begin immediate) = true
is_well_formed statements.Commit = true
is_well_formed statements.Rollback = true
is_well_formed (statements.RollbackTo name) = is_name name
is_well_formed (statements.Savepoint name) = is_name name
is_well_formed (statements.Release name) = is_name name
