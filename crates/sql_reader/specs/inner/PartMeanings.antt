-- What is made of the parts of a statement: what they mean where the parameters are taken, or their first text that spells
-- no vector.
use Rattle.std.specs.Prelude.{◌≡◌, ℕ, List, [], ◌++◌, Option, Some, None, Result, Ok, Err, length, ⊤}
use Rattle.std.specs.List.{AllByRecursion, flat_map}
use Rattle.vec_base.specs.declared.refusal.Refusal.{Refusal}
use Rattle.vec_base.specs.declared.refusal.Refusal.TheVariants as refusals
use Rattle.vec_base.specs.declared.value.Value.{Value}
use Rattle.row_model.specs.declared.limits.TheConstants.{TERMS_LIMIT}
use Rattle.row_model.specs.declared.statement.Statement.{Statement}
use Rattle.sql_reader.specs.declared.flaw.Flaw.{Flaw}
use Rattle.sql_reader.specs.declared.flaw.Flaw.TheVariants as flaws
use Rattle.sql_reader.specs.declared.given.Given.{Given}
use Rattle.sql_reader.specs.declared.given.Group.{Group}
use Rattle.sql_reader.specs.declared.given.GivenAssign.{GivenAssign}
use Rattle.sql_reader.specs.declared.given.GivenTerm.{GivenTerm}
use Rattle.sql_reader.specs.declared.given.GivenTest.{GivenTest}
use Rattle.sql_reader.specs.declared.given.GivenStatement.{GivenStatement}
use Rattle.sql_reader.specs.declared.given.GivenStatement.TheVariants as statements
use Rattle.sql_reader.specs.GivenStatements.{Check, checks_of, group_checks, Use, uses_of, in_test, in_limit}
use Rattle.sql_reader.specs.StatementReading.{Passes, IsFirstFailing, IsTaken, Means, rule_fault}

abbrev pub AllPassed : List Check → Type 0
AllPassed all = AllByRecursion Passes all

abbrev pub AreTaken : List Value → List Use → Type 0
AreTaken params all = AllByRecursion (IsTaken params) all

-- what is made of a part with these checks, where Taken says that its parameters are taken
abbrev pub IsPartMeaning : {Y : Type 0} → List Check → Type 0 → (Y → Type 0) → Result Y Flaw → Type 0
IsPartMeaning all Taken M (Ok y) = AllPassed all × (Taken → M y)
IsPartMeaning all Taken M (Err flaws.Memory) = ⊤
IsPartMeaning all Taken M (Err (flaws.Place place)) = IsFirstFailing all place
IsPartMeaning all Taken M (Err (flaws.Rule rule)) = ⊥

abbrev pub test_checks : GivenTest → List Check
test_checks test = flat_map checks_of (in_test test)

abbrev pub test_uses : GivenTest → List Use
test_uses test = flat_map uses_of (in_test test)

-- ---- in the order in which the parts are made

abbrev pub term_checks : List GivenTerm → List Check
term_checks terms = flat_map (λ term. test_checks term.test) terms

abbrev pub term_uses : List GivenTerm → List Use
term_uses terms = flat_map (λ term. test_uses term.test) terms

abbrev pub set_checks : List GivenAssign → List Check
set_checks sets = flat_map (λ set. checks_of set.value) sets

abbrev pub set_uses : List GivenAssign → List Use
set_uses sets = flat_map (λ set. uses_of set.value) sets

abbrev pub group_uses : List Group → List Use
group_uses groups = flat_map (λ group. flat_map uses_of group.values) groups

abbrev pub limit_checks : Option Given → List Check
limit_checks limit = flat_map checks_of (in_limit limit)

abbrev pub limit_uses : Option Given → List Use
limit_uses limit = flat_map uses_of (in_limit limit)

abbrev pub ordered_checks : GivenStatement → List Check
ordered_checks (statements.Insert table names groups) = flat_map (group_checks (length names)) groups
ordered_checks (statements.Update table sets terms) = set_checks sets ++ term_checks terms
ordered_checks (statements.Delete table terms) = term_checks terms
ordered_checks (statements.Select select) = term_checks select.where_terms ++ limit_checks select.limit
ordered_checks (statements.Explain select) = term_checks select.where_terms ++ limit_checks select.limit
ordered_checks other = []

abbrev pub ordered_uses : GivenStatement → List Use
ordered_uses (statements.Insert table names groups) = group_uses groups
ordered_uses (statements.Update table sets terms) = set_uses sets ++ term_uses terms
ordered_uses (statements.Delete table terms) = term_uses terms
ordered_uses (statements.Select select) = term_uses select.where_terms ++ limit_uses select.limit
ordered_uses (statements.Explain select) = term_uses select.where_terms ++ limit_uses select.limit
ordered_uses other = []

-- what is made of a statement, of which the columns may break a rule
abbrev pub IsStatementMeaning : List Value → GivenStatement → Result Statement Flaw → Type 0
IsStatementMeaning params given (Ok result) = AllPassed (ordered_checks given) × (rule_fault given ≡ None) × (AreTaken params (ordered_uses given) → Means params given result)
IsStatementMeaning params given (Err flaws.Memory) = ⊤
IsStatementMeaning params given (Err (flaws.Place place)) = IsFirstFailing (ordered_checks given) place
IsStatementMeaning params given (Err (flaws.Rule rule)) = AllPassed (ordered_checks given) × (rule_fault given ≡ Some rule)

-- ---- what is answered

abbrev pub later : Option ℕ → Option ℕ → Option Refusal
later (Some index) count = Some (refusals.Parameter index)
later None (Some count) = Some (refusals.Full TERMS_LIMIT count)
later None None = None

abbrev pub unless_later : Option Refusal → Result Statement Refusal → Result Statement Refusal
unless_later (Some refusal) result = Err refusal
unless_later None result = result

-- the answer, where these are the faults of the parameters and of the counts
abbrev pub answered : Result Statement Flaw → Option ℕ → Option ℕ → Result Statement Refusal
answered (Err flaws.Memory) fault count = Err refusals.WantOfMemory
answered (Err (flaws.Place place)) fault count = Err (refusals.Syntax place)
answered (Err (flaws.Rule rule)) fault count = unless_later (later fault count) (Err (refusals.BadSchema rule))
answered (Ok result) fault count = unless_later (later fault count) (Ok result)
