-- What a statement holds: the values that its text gives, and what the parameters are used for.
use Rattle.std.specs.Prelude.{ℕ, ◌==◌, Bool, List, [], ◌∷◌, ◌++◌, length, map, Option, Some, None}
use Rattle.std.specs.List.{flat_map}
use Rattle.row_model.specs.declared.statement.Items.{Items}
use Rattle.row_model.specs.declared.statement.Items.TheVariants.{All, Named}
use Rattle.sql_reader.specs.declared.given.Given.{Given}
use Rattle.sql_reader.specs.declared.given.Given.TheVariants as givens
use Rattle.sql_reader.specs.declared.given.Group.{Group}
use Rattle.sql_reader.specs.declared.given.GivenAssign.{GivenAssign}
use Rattle.sql_reader.specs.declared.given.GivenTest.{GivenTest}
use Rattle.sql_reader.specs.declared.given.GivenTest.TheVariants as tests
use Rattle.sql_reader.specs.declared.given.GivenTerm.{GivenTerm}
use Rattle.sql_reader.specs.declared.given.GivenSelect.{GivenSelect}
use Rattle.sql_reader.specs.declared.given.GivenStatement.{GivenStatement}
use Rattle.sql_reader.specs.declared.given.GivenStatement.TheVariants as statements

-- ---- the values, in the order of the text

abbrev pub in_test : GivenTest → List Given
in_test (tests.Compare op given) = given ∷ []
in_test (tests.Member members) = members
in_test (tests.Match given) = given ∷ []

abbrev pub in_terms : List GivenTerm → List Given
in_terms terms = flat_map (λ term. in_test term.test) terms

abbrev pub in_limit : Option Given → List Given
in_limit None = []
in_limit (Some given) = given ∷ []

abbrev pub in_select : GivenSelect → List Given
in_select select = in_terms select.where_terms ++ in_limit select.limit

abbrev pub in_groups : List Group → List Given
in_groups groups = flat_map (λ group. group.values) groups

abbrev pub in_sets : List GivenAssign → List Given
in_sets sets = map (λ set. set.value) sets

abbrev pub in_statement : GivenStatement → List Given
in_statement (statements.Insert table names groups) = in_groups groups
in_statement (statements.Update table sets terms) = in_sets sets ++ in_terms terms
in_statement (statements.Delete table terms) = in_terms terms
in_statement (statements.Select select) = in_select select
in_statement (statements.Explain select) = in_select select
in_statement other = []

-- ---- what the grammar does not tell: which texts spell vectors, and whether a row has a value for each name

pub data Check : Type 0 where
  -- the literal at the place has to spell an int8 vector by the text
  literal : ℕ → List ℕ → Check
  -- the row that is closed at the place has as many values as the INSERT has names, or not
  row : ℕ → Bool → Check

abbrev pub checks_of : Given → List Check
checks_of (givens.Int8Text place text) = literal place text ∷ []
checks_of other = []

abbrev pub group_checks : ℕ → Group → List Check
group_checks count group = flat_map checks_of group.values ++ row group.close (length group.values == count) ∷ []

-- in the order of the text
abbrev pub checks : GivenStatement → List Check
checks (statements.Insert table names groups) = flat_map (group_checks (length names)) groups
checks other = flat_map checks_of (in_statement other)

-- ---- parameters

-- what takes a parameter: a place for any value, an int8 vector, or a bit vector
pub data Taker : Type 0 where
  any : Taker
  int8 : Taker
  bits : Taker

pub record Use : Type 0 where
  pub number : ℕ
  pub taker : Taker

abbrev pub uses_of : Given → List Use
uses_of (givens.Value v) = []
uses_of (givens.Parameter n) = record { number = n; taker = any } ∷ []
uses_of (givens.Int8Text place text) = []
uses_of (givens.Int8Parameter n) = record { number = n; taker = int8 } ∷ []
uses_of (givens.BitsParameter n) = record { number = n; taker = bits } ∷ []

abbrev pub uses : GivenStatement → List Use
uses statement = flat_map uses_of (in_statement statement)

-- ---- counts

abbrev pub item_count : Items → ℕ
item_count All = 0
item_count (Named names) = length names

-- the number of items of a SELECT, and of terms of a WHERE
abbrev pub items_in : GivenStatement → ℕ
items_in (statements.Select select) = item_count select.items
items_in (statements.Explain select) = item_count select.items
items_in other = 0

abbrev pub terms_in : GivenStatement → ℕ
terms_in (statements.Update table sets terms) = length terms
terms_in (statements.Delete table terms) = length terms
terms_in (statements.Select select) = length select.where_terms
terms_in (statements.Explain select) = length select.where_terms
terms_in other = 0
