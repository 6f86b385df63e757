-- What a text spells with parameters: a statement, or the refusal of the reading.
use Rattle.std.specs.Prelude.{◌≡◌, ℕ, ◌+◌, ◌-◌, ◌<◌, ◌≤◌, ◌⊎◌, true, if◌then◌else◌, nat_lt, List, [], ◌∷◌, ◌++◌, length, max, slice_index_or, Option, Some, None, ⊤}
use Rattle.std.specs.List.{AllByRecursion}
use Rattle.vec_base.specs.declared.refusal.Refusal.{Refusal}
use Rattle.vec_base.specs.declared.refusal.Refusal.TheVariants as refusals
use Rattle.vec_base.specs.declared.value.Value.{Value}
use Rattle.vec_base.specs.declared.value.Value.TheVariants as values
use Rattle.vec_literal.specs.Int8.{SpellsInt8}
use Rattle.vec_literal.specs.Tokens.{Token}
use Rattle.grammar.specs.FailingToken.{IsTooLong, refusal_of}
use Rattle.vec_base.specs.declared.limits.TheConstants.{MOST_TERMS, MOST_TEXT_BYTES}
use Rattle.row_model.specs.declared.limits.TheConstants.{TERMS_LIMIT}
use Rattle.grammar.specs.Grammar.{Spells, FailsAt}
use Rattle.grammar.specs.Parameters.{numbered_tokens}
use Rattle.row_model.specs.declared.statement.Assign.{Assign}
use Rattle.row_model.specs.declared.statement.Constraint.{Constraint}
use Rattle.row_model.specs.declared.statement.Delete.{Delete}
use Rattle.row_model.specs.declared.statement.Insert.{Insert}
use Rattle.row_model.specs.declared.statement.Select.{Select}
use Rattle.row_model.specs.declared.statement.Statement.{Statement}
use Rattle.row_model.specs.declared.statement.Statement.TheVariants as read
use Rattle.row_model.specs.declared.statement.Test.{Test}
use Rattle.row_model.specs.declared.statement.Update.{Update}
use Rattle.row_model.specs.declared.statement.Test.TheVariants as asked
use Rattle.vec0_columns.specs.ColumnGrammar.{text_fault, schema_of}
use Rattle.sql_reader.specs.declared.given.Given.{Given}
use Rattle.sql_reader.specs.declared.given.Given.TheVariants as givens
use Rattle.sql_reader.specs.declared.given.Group.{Group}
use Rattle.sql_reader.specs.declared.given.GivenAssign.{GivenAssign}
use Rattle.sql_reader.specs.declared.given.GivenTest.{GivenTest}
use Rattle.sql_reader.specs.declared.given.GivenTest.TheVariants as tests
use Rattle.sql_reader.specs.declared.given.GivenTerm.{GivenTerm}
use Rattle.sql_reader.specs.declared.given.GivenSelect.{GivenSelect}
use Rattle.sql_reader.specs.declared.given.GivenStatement.{GivenStatement}
use Rattle.sql_reader.specs.declared.given.GivenStatement.TheVariants as statements
use Rattle.sql_reader.specs.GivenStatements.{Check, literal, row, checks, Taker, any, int8, bits, Use, uses, items_in, terms_in}
use Rattle.sql_reader.specs.StatementGrammar.{statement}

-- ---- texts of vectors, and rows

-- the literal spells a vector; the row has a value for each name
abbrev pub Passes : Check → Type 0
Passes (literal place text) = (vector : List ℕ) × SpellsInt8 text vector
Passes (row place right) = right ≡ true

abbrev pub place_of : Check → ℕ
place_of (literal place text) = place
place_of (row place right) = place

-- the place of the first of these that is not passed
pub record IsFirstFailing (all : List Check) (at : ℕ) : Type 0 where
  pub before : List Check
  pub failing : Check
  pub behind : List Check
  pub whole : all ≡ before ++ failing ∷ behind
  pub passed : AllByRecursion Passes before
  pub not_passed : Passes failing → ⊥
  pub place : at ≡ place_of failing

-- ---- parameters

-- An int8 vector is taken from its text, from a blob, or as it is; a bit vector from a blob, or as it is.
abbrev pub Takes : Taker → Value → Type 0
Takes any value = ⊤
Takes int8 (values.Text text) = (vector : List ℕ) × SpellsInt8 text vector
Takes int8 (values.Blob bytes) = ⊤
Takes int8 (values.Int8 vector) = ⊤
Takes int8 other = ⊥
Takes bits (values.Blob bytes) = ⊤
Takes bits (values.Bits vector) = ⊤
Takes bits other = ⊥

-- the parameter of the number, where it is given
abbrev pub parameter : List Value → ℕ → Value
parameter params n = slice_index_or params (n - 1) values.Null

abbrev pub IsTaken : List Value → Use → Type 0
IsTaken params used = Takes used.taker (parameter params used.number)

-- the greatest number of a parameter, 0 where there is none
abbrev pub greatest : List Use → ℕ
greatest [] = 0
greatest (used ∷ more) = max used.number (greatest more)

-- the least number of a parameter that is not taken
pub record IsLeastUntaken (params : List Value) (all : List Use) (index : ℕ) : Type 0 where
  pub before : List Use
  pub untaken : Use
  pub behind : List Use
  pub whole : all ≡ before ++ untaken ∷ behind
  pub number : index ≡ untaken.number
  pub not_taken : IsTaken params untaken → ⊥
  pub least : AllByRecursion (λ used. used.number < index → IsTaken params used) all

-- too few, too many, or one that is not taken
abbrev pub IsParameterFault : List Value → List Use → ℕ → Type 0
IsParameterFault params all index =
    ((length params < greatest all) × (index ≡ length params + 1))
    ⊎ (((greatest all < length params) × (index ≡ greatest all + 1))
    ⊎ ((greatest all ≡ length params) × IsLeastUntaken params all index))

-- as many as are used, and each is taken
pub record ParametersFit (params : List Value) (all : List Use) : Type 0 where
  pub count : greatest all ≡ length params
  pub taken : AllByRecursion (IsTaken params) all

-- ---- counts

-- the count of items or of terms that is over `MOST_TERMS`; that of the items where both are
abbrev pub count_fault : GivenStatement → Option ℕ
count_fault given =
    if nat_lt MOST_TERMS (items_in given) then Some (items_in given)
    else if nat_lt MOST_TERMS (terms_in given) then Some (terms_in given)
    else None

-- ---- schemas

-- the least rule that the columns of a CREATE break
abbrev pub rule_fault : GivenStatement → Option ℕ
rule_fault (statements.Create table columns) = text_fault columns
rule_fault other = None

-- ---- what the parts mean

-- one to one, in their order
abbrev pub Each : {A B : Type 0} → (A → B → Type 0) → List A → List B → Type 0
Each R [] [] = ⊤
Each R (x ∷ xs) (y ∷ ys) = R x y × Each R xs ys
Each R [] (y ∷ ys) = ⊥
Each R (x ∷ xs) [] = ⊥

abbrev pub EachOption : {A B : Type 0} → (A → B → Type 0) → Option A → Option B → Type 0
EachOption R None None = ⊤
EachOption R (Some x) (Some y) = R x y
EachOption R None (Some y) = ⊥
EachOption R (Some x) None = ⊥

-- the int8 vector that a parameter's value gives
abbrev pub GivesInt8 : Value → Value → Type 0
GivesInt8 (values.Text text) value = (vector : List ℕ) × SpellsInt8 text vector × (value ≡ values.Int8 vector)
GivesInt8 (values.Blob bytes) value = value ≡ values.Int8 bytes
GivesInt8 (values.Int8 vector) value = value ≡ values.Int8 vector
GivesInt8 other value = ⊥

-- the bit vector
abbrev pub GivesBits : Value → Value → Type 0
GivesBits (values.Blob bytes) value = value ≡ values.Bits bytes
GivesBits (values.Bits vector) value = value ≡ values.Bits vector
GivesBits other value = ⊥

abbrev pub MeansValue : List Value → Given → Value → Type 0
MeansValue params (givens.Value v) value = value ≡ v
MeansValue params (givens.Parameter n) value = value ≡ parameter params n
MeansValue params (givens.Int8Text place text) value = (vector : List ℕ) × SpellsInt8 text vector × (value ≡ values.Int8 vector)
MeansValue params (givens.Int8Parameter n) value = GivesInt8 (parameter params n) value
MeansValue params (givens.BitsParameter n) value = GivesBits (parameter params n) value

abbrev pub MeansTest : List Value → GivenTest → Test → Type 0
MeansTest params (tests.Compare op given) test = (value : Value) × MeansValue params given value × (test ≡ asked.Compare op value)
MeansTest params (tests.Member givens) test = (members : List Value) × Each (MeansValue params) givens members × (test ≡ asked.Member members)
MeansTest params (tests.Match given) test = (value : Value) × MeansValue params given value × (test ≡ asked.Match value)

abbrev pub MeansTerm : List Value → GivenTerm → Constraint → Type 0
MeansTerm params given term = (term.column ≡ given.column) × MeansTest params given.test term.test

abbrev pub MeansAssign : List Value → GivenAssign → Assign → Type 0
MeansAssign params given set = (set.column ≡ given.column) × MeansValue params given.value set.value

abbrev pub MeansGroup : List Value → Group → List Value → Type 0
MeansGroup params group values = Each (MeansValue params) group.values values

pub record MeansSelect (params : List Value) (given : GivenSelect) (select : Select) : Type 0 where
  pub table : select.table ≡ given.table
  pub items : select.items ≡ given.items
  pub where_terms : Each (MeansTerm params) given.where_terms select.where_terms
  pub order : select.order ≡ given.order
  pub limit : EachOption (MeansValue params) given.limit select.limit

pub record MeansInsert (params : List Value) (name : List ℕ) (names : List (List ℕ)) (groups : List Group) (insert : Insert) : Type 0 where
  pub table : insert.table ≡ name
  pub columns : insert.columns ≡ names
  pub rows : Each (MeansGroup params) groups insert.rows

pub record MeansUpdate (params : List Value) (name : List ℕ) (assigns : List GivenAssign) (terms : List GivenTerm) (update : Update) : Type 0 where
  pub table : update.table ≡ name
  pub sets : Each (MeansAssign params) assigns update.sets
  pub where_terms : Each (MeansTerm params) terms update.where_terms

pub record MeansDelete (params : List Value) (name : List ℕ) (terms : List GivenTerm) (delete : Delete) : Type 0 where
  pub table : delete.table ≡ name
  pub where_terms : Each (MeansTerm params) terms delete.where_terms

-- the statement that is given so, with these parameters
abbrev pub Means : List Value → GivenStatement → Statement → Type 0
Means params (statements.Create table columns) result = result ≡ read.Create table (schema_of columns)
Means params (statements.Drop table) result = result ≡ read.Drop table
Means params (statements.Insert table names groups) result = (insert : Insert) × MeansInsert params table names groups insert × (result ≡ read.Insert insert)
Means params (statements.Update table sets terms) result = (update : Update) × MeansUpdate params table sets terms update × (result ≡ read.Update update)
Means params (statements.Delete table terms) result = (delete : Delete) × MeansDelete params table terms delete × (result ≡ read.Delete delete)
Means params (statements.Select given) result = (select : Select) × MeansSelect params given select × (result ≡ read.Select select)
Means params (statements.Explain given) result = (select : Select) × MeansSelect params given select × (result ≡ read.Explain select)
Means params (statements.Begin immediate) result = result ≡ read.Begin immediate
Means params statements.Commit result = result ≡ read.Commit
Means params statements.Rollback result = result ≡ read.Rollback
Means params (statements.RollbackTo name) result = result ≡ read.RollbackTo name
Means params (statements.Savepoint name) result = result ≡ read.Savepoint name
Means params (statements.Release name) result = result ≡ read.Release name

-- ---- what is answered

-- each text of a vector spells one, and each row has a value for each name
abbrev pub PassesChecks : GivenStatement → Type 0
PassesChecks given = AllByRecursion Passes (checks given)

-- The text spells the statement, where the parameters have these values.
pub record SpellsStatement (text : List ℕ) (params : List Value) (result : Statement) : Type 0 where
  pub within : length text ≤ MOST_TEXT_BYTES
  pub given : GivenStatement
  pub spelled : Spells statement (numbered_tokens text) given
  pub passed : PassesChecks given
  pub parameters : ParametersFit params (uses given)
  pub counts : count_fault given ≡ None
  pub rules : rule_fault given ≡ None
  pub means : Means params given result

-- the text is not of the grammar, and the refusal is the one for its failing token
abbrev pub FailsAtToken : List ℕ → Refusal → Type 0
FailsAtToken text refusal = (rest : List Token) × FailsAt statement (numbered_tokens text) rest × (refusal ≡ refusal_of (length text) rest)

-- What is given is refused for the first of these: a text of a vector or a row; the parameters; a count; a rule of schemas.
abbrev pub IsGivenRefusal : List Value → GivenStatement → Refusal → Type 0
IsGivenRefusal params given refusal =
    ((place : ℕ) × IsFirstFailing (checks given) place × (refusal ≡ refusals.Syntax place))
    ⊎ (PassesChecks given × (((index : ℕ) × IsParameterFault params (uses given) index × (refusal ≡ refusals.Parameter index))
    ⊎ (ParametersFit params (uses given) × (((count : ℕ) × (count_fault given ≡ Some count) × (refusal ≡ refusals.Full TERMS_LIMIT count))
    ⊎ ((count_fault given ≡ None) × ((rule : ℕ) × (rule_fault given ≡ Some rule) × (refusal ≡ refusals.BadSchema rule)))))))

-- The refusal of a text that spells no statement with these parameters: it is too long, fails at a token, or gives a
-- statement that is refused.
abbrev pub IsRefusal : List ℕ → List Value → Refusal → Type 0
IsRefusal text params refusal =
    IsTooLong text refusal
    ⊎ ((length text ≤ MOST_TEXT_BYTES) × (FailsAtToken text refusal
    ⊎ ((given : GivenStatement) × Spells statement (numbered_tokens text) given × IsGivenRefusal params given refusal)))
