-- The grammar of statements, line by line. Words in capitals are read in any case.
use Rattle.std.specs.Prelude.{ℕ, pos, true, false, List, [], ◌∷◌, Option, Some, None, codes}
use Rattle.vec_base.specs.declared.value.Op.{Op}
use Rattle.vec_base.specs.declared.value.Op.TheVariants as ops
use Rattle.vec_base.specs.declared.value.Value.{Value}
use Rattle.vec_base.specs.declared.value.Value.TheVariants as values
use Rattle.grammar.specs.Grammar.{Part, keyword, seq, alt, opt, means, ◌▸◌, ◌◂◌, parts_with, list_of, a_word, a_mark, a_placed_mark, a_name, a_text, a_placed_text, a_blob, a_parameter, a_signed_number, or_default}
use Rattle.row_model.specs.declared.statement.Items.{Items}
use Rattle.row_model.specs.declared.statement.Items.TheVariants as items
use Rattle.row_model.specs.declared.statement.Order.{Order}
use Rattle.row_model.specs.declared.statement.Order.TheVariants as orders
use Rattle.vec0_columns.specs.ColumnGrammar.{columns}
use Rattle.sql_reader.specs.declared.given.Given.{Given}
use Rattle.sql_reader.specs.declared.given.Given.TheVariants as givens
use Rattle.sql_reader.specs.declared.given.Group.{Group}
use Rattle.sql_reader.specs.declared.given.GivenAssign.{GivenAssign}
use Rattle.sql_reader.specs.declared.given.GivenTest.{GivenTest}
use Rattle.sql_reader.specs.declared.given.GivenTest.TheVariants as tests
use Rattle.sql_reader.specs.declared.given.GivenTerm.{GivenTerm}
use Rattle.sql_reader.specs.declared.given.GivenSelect.{GivenSelect}
use Rattle.sql_reader.specs.declared.given.GivenStatement.{GivenStatement}
use Rattle.sql_reader.specs.declared.given.GivenStatement.TheVariants as statements

-- ---- parts that stand in several lines

-- ( p ), where the parentheses are marks
abbrev pub in_parentheses : {A : Type 0} → Part A → Part A
in_parentheses p = a_mark (codes "(") ▸ p ◂ a_mark (codes ")")

-- the word, which stands for the value
abbrev pub word_for : {A : Type 0} → A → List ℕ → Part A
word_for a w = means (λ x. a) (a_word w)

abbrev pub mark_for : {A : Type 0} → A → List ℕ → Part A
mark_for a m = means (λ x. a) (a_mark m)

-- the part, or an empty list where it is left out
abbrev pub or_none : {A : Type 0} → Part (List A) → Part (List A)
or_none p = means (or_default []) (opt p)

-- a word that may stand there and says nothing
abbrev pub may_say : List ℕ → Part (Option (Unit {0}))
may_say w = opt (a_word w)

-- ---- values

-- VEC_INT8 ( TextLit | BlobLit | Param )
unfoldable pub vec_int8 : Part Given
vec_int8 =
    a_word (codes "VEC_INT8") ▸ in_parentheses
    (alt (means (λ x. givens.Int8Text x.0 x.1) a_placed_text) (alt (means (λ b. givens.Value (values.Int8 b)) a_blob) (means (λ n. givens.Int8Parameter n) a_parameter)))

-- VEC_BIT ( BlobLit | Param )
unfoldable pub vec_bit : Part Given
vec_bit =
    a_word (codes "VEC_BIT") ▸ in_parentheses
    (alt (means (λ b. givens.Value (values.Bits b)) a_blob) (means (λ n. givens.BitsParameter n) a_parameter))

-- the word, which stands for a value
abbrev pub constant : Value → List ℕ → Part Given
constant v w = word_for (givens.Value v) w

-- value  = [+|-] Number | TextLit | BlobLit | NULL | TRUE | FALSE | Param
--        | VEC_INT8 ( TextLit | BlobLit | Param ) | VEC_BIT ( BlobLit | Param )
unfoldable pub value : Part Given
value =
    alt (means (λ z. givens.Value (values.Int z)) a_signed_number)
    (alt (means (λ t. givens.Value (values.Text t)) a_text) (alt (means (λ b. givens.Value (values.Blob b)) a_blob)
    (alt (constant values.Null (codes "NULL")) (alt (constant (values.Int (pos 1)) (codes "TRUE")) (alt (constant (values.Int (pos 0)) (codes "FALSE"))
    (alt (means (λ n. givens.Parameter n) a_parameter)
    (alt vec_int8 vec_bit)))))))

-- group  = ( value {, value} )
unfoldable pub group : Part Group
group =
    means (λ x. record { values = x.0; close = x.1 })
    (a_mark (codes "(") ▸ seq (list_of value) (a_placed_mark (codes ")")))

-- ---- terms

-- op     = `=` | `==` | `!=` | `<>` | `<` | `<=` | `>` | `>=`
unfoldable pub op : Part Op
op =
    alt (mark_for ops.Eq (codes "=")) (alt (mark_for ops.Eq (codes "==")) (alt (mark_for ops.Ne (codes "!=")) (alt (mark_for ops.Ne (codes "<>"))
    (alt (mark_for ops.Lt (codes "<")) (alt (mark_for ops.Le (codes "<=")) (alt (mark_for ops.Gt (codes ">")) (mark_for ops.Ge (codes ">="))))))))

-- a name and what is asked of its column
abbrev pub term_of : Part GivenTest → Part GivenTerm
term_of test = means (λ x. record { column = x.0; test = x.1 }) (seq a_name test)

-- op value
unfoldable pub comparison : Part GivenTest
comparison = means (λ x. tests.Compare x.0 x.1) (seq op value)

-- IN ( value {, value} )
unfoldable pub member : Part GivenTest
member = means (λ vs. tests.Member vs) (a_word (codes "IN") ▸ in_parentheses (list_of value))

-- MATCH value
unfoldable pub match_of : Part GivenTest
match_of = means (λ v. tests.Match v) (a_word (codes "MATCH") ▸ value)

-- term   = name op value | name IN ( value {, value} ) | name MATCH value
unfoldable pub term : Part GivenTerm
term = alt (term_of comparison) (alt (term_of member) (term_of match_of))

-- where  = WHERE term {AND term}
unfoldable pub where_part : Part (List GivenTerm)
where_part = a_word (codes "WHERE") ▸ parts_with (keyword (codes "AND")) term

-- ---- SELECT

-- order  = ORDER BY ( DISTANCE [ASC] [, ROWID [ASC]] | ROWID [ASC] )
unfoldable pub by_distance : Part Order
by_distance =
    means (λ x. orders.ByDistance)
    (seq (a_word (codes "DISTANCE")) (seq (may_say (codes "ASC")) (opt (a_mark (codes ",") ▸ a_word (codes "ROWID") ▸ may_say (codes "ASC")))))

unfoldable pub by_rowid : Part Order
by_rowid = means (λ x. orders.ByRowid) (seq (a_word (codes "ROWID")) (may_say (codes "ASC")))

unfoldable pub order : Part Order
order = a_word (codes "ORDER") ▸ a_word (codes "BY") ▸ alt by_distance by_rowid

-- * | name {, name}
unfoldable pub items_part : Part Items
items_part = alt (mark_for items.All (codes "*")) (means (λ names. items.Named names) (list_of a_name))

-- LIMIT value
unfoldable pub limit : Part Given
limit = a_word (codes "LIMIT") ▸ value

-- select = SELECT ( * | name {, name} ) FROM name [where] [order] [LIMIT value]
unfoldable pub select : Part GivenSelect
select =
    means (λ x. record { table = x.1.0; items = x.0; where_terms = x.1.1.0; order = x.1.1.1.0; limit = x.1.1.1.1 })
    (a_word (codes "SELECT") ▸ seq items_part (a_word (codes "FROM") ▸
    seq a_name (seq (or_none where_part) (seq (means (or_default orders.Unsaid) (opt order)) (opt limit)))))

-- ---- the statements

-- CREATE VIRTUAL TABLE name USING VEC0 ( columns )
unfoldable pub create : Part GivenStatement
create =
    means (λ x. statements.Create x.0 x.1)
    (a_word (codes "CREATE") ▸ a_word (codes "VIRTUAL") ▸ a_word (codes "TABLE") ▸
    seq a_name (a_word (codes "USING") ▸ a_word (codes "VEC0") ▸ in_parentheses columns))

-- DROP TABLE name
unfoldable pub drop_table : Part GivenStatement
drop_table = means (λ name. statements.Drop name) (a_word (codes "DROP") ▸ a_word (codes "TABLE") ▸ a_name)

-- INSERT INTO name ( name {, name} ) VALUES group {, group}
unfoldable pub insert : Part GivenStatement
insert =
    means (λ x. statements.Insert x.0 x.1.0 x.1.1)
    (a_word (codes "INSERT") ▸ a_word (codes "INTO") ▸
    seq a_name (seq (in_parentheses (list_of a_name)) (a_word (codes "VALUES") ▸ list_of group)))

-- name = value
unfoldable pub assignment : Part GivenAssign
assignment = means (λ x. record { column = x.0; value = x.1 }) (seq a_name (a_mark (codes "=") ▸ value))

-- UPDATE name SET name = value {, name = value} [where]
unfoldable pub update : Part GivenStatement
update =
    means (λ x. statements.Update x.0 x.1.0 x.1.1)
    (a_word (codes "UPDATE") ▸ seq a_name (a_word (codes "SET") ▸ seq (list_of assignment) (or_none where_part)))

-- DELETE FROM name [where]
unfoldable pub delete : Part GivenStatement
delete =
    means (λ x. statements.Delete x.0 x.1)
    (a_word (codes "DELETE") ▸ a_word (codes "FROM") ▸ seq a_name (or_none where_part))

-- EXPLAIN select
unfoldable pub explain : Part GivenStatement
explain = means (λ s. statements.Explain s) (a_word (codes "EXPLAIN") ▸ select)

-- BEGIN [DEFERRED | IMMEDIATE] [TRANSACTION]
unfoldable pub begin : Part GivenStatement
begin =
    means (λ immediate. statements.Begin immediate)
    (a_word (codes "BEGIN") ▸
    means (or_default false) (opt (alt (word_for false (codes "DEFERRED")) (word_for true (codes "IMMEDIATE")))) ◂ may_say (codes "TRANSACTION"))

-- COMMIT [TRANSACTION] | END [TRANSACTION]
unfoldable pub commit : Part GivenStatement
commit =
    alt (word_for statements.Commit (codes "COMMIT") ◂ may_say (codes "TRANSACTION"))
    (word_for statements.Commit (codes "END") ◂ may_say (codes "TRANSACTION"))

abbrev pub rollback_to : Option (List ℕ) → GivenStatement
rollback_to None = statements.Rollback
rollback_to (Some name) = statements.RollbackTo name

-- ROLLBACK [TRANSACTION] [TO [SAVEPOINT] name]
unfoldable pub rollback : Part GivenStatement
rollback =
    means rollback_to
    (a_word (codes "ROLLBACK") ▸ may_say (codes "TRANSACTION") ▸ opt (a_word (codes "TO") ▸ may_say (codes "SAVEPOINT") ▸ a_name))

-- SAVEPOINT name
unfoldable pub savepoint : Part GivenStatement
savepoint = means (λ name. statements.Savepoint name) (a_word (codes "SAVEPOINT") ▸ a_name)

-- RELEASE [SAVEPOINT] name
unfoldable pub release : Part GivenStatement
release = means (λ name. statements.Release name) (a_word (codes "RELEASE") ▸ may_say (codes "SAVEPOINT") ▸ a_name)

-- body   = CREATE .. | DROP .. | INSERT .. | UPDATE .. | DELETE .. | select | EXPLAIN select
--        | BEGIN .. | COMMIT .. | END .. | ROLLBACK .. | SAVEPOINT .. | RELEASE ..
unfoldable pub body : Part GivenStatement
body =
    alt create (alt drop_table (alt insert (alt update (alt delete (alt (means (λ s. statements.Select s) select) (alt explain
    (alt begin (alt commit (alt rollback (alt savepoint release))))))))))

-- statement = body [;]
unfoldable pub statement : Part GivenStatement
statement = body ◂ opt (a_mark (codes ";"))
