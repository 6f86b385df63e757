-- The grammar of statements with equal beginnings taken together, so that the next token decides each choice.
use Rattle.std.specs.Prelude.{ℕ, pos, Bool, true, false, List, ◌∷◌, Option, codes}
use Rattle.vec_base.specs.declared.value.Op.{Op}
use Rattle.vec_base.specs.declared.value.Op.TheVariants as ops
use Rattle.vec_base.specs.declared.value.Value.TheVariants as values
use Rattle.grammar.specs.Grammar.{Part, keyword, seq, alt, opt, means, ◌▸◌, ◌◂◌, parts_with, list_of, a_word, a_mark, a_name, a_placed_text, a_blob, a_parameter, or_default}
use Rattle.row_model.specs.declared.statement.Order.{Order}
use Rattle.row_model.specs.declared.statement.Order.TheVariants as orders
use Rattle.vec0_columns.specs.inner.FactoredColumns.{factored_columns}
use Rattle.sql_reader.specs.declared.given.Given.{Given}
use Rattle.sql_reader.specs.declared.given.Given.TheVariants as givens
use Rattle.sql_reader.specs.declared.given.Group.{Group}
use Rattle.sql_reader.specs.declared.given.GivenAssign.{GivenAssign}
use Rattle.sql_reader.specs.declared.given.GivenTest.{GivenTest}
use Rattle.sql_reader.specs.declared.given.GivenTerm.{GivenTerm}
use Rattle.sql_reader.specs.declared.given.GivenSelect.{GivenSelect}
use Rattle.sql_reader.specs.declared.given.GivenStatement.{GivenStatement}
use Rattle.sql_reader.specs.declared.given.GivenStatement.TheVariants as statements
use Rattle.sql_reader.specs.StatementGrammar.{in_parentheses, word_for, mark_for, or_none, may_say, constant, vec_int8, vec_bit, value, group, term_of, comparison, member, match_of, order, items_part, limit, drop_table, insert, assignment, begin, commit, rollback, savepoint, release}

-- ---- parts of choices

-- Param | VEC_INT8 .. | VEC_BIT ..
unfoldable pub operand : Part Given
operand = alt (means (λ n. givens.Parameter n) a_parameter) (alt vec_int8 vec_bit)

-- NULL | TRUE | FALSE | Param ..
unfoldable pub word_value : Part Given
word_value = alt (constant values.Null (codes "NULL")) (alt (constant (values.Int (pos 1)) (codes "TRUE")) (alt (constant (values.Int (pos 0)) (codes "FALSE")) operand))

-- TextLit | BlobLit | Param
unfoldable pub int8_operand : Part Given
int8_operand = alt (means (λ x. givens.Int8Text x.0 x.1) a_placed_text) (alt (means (λ b. givens.Value (values.Int8 b)) a_blob) (means (λ n. givens.Int8Parameter n) a_parameter))

-- BlobLit | Param
unfoldable pub bits_operand : Part Given
bits_operand = alt (means (λ b. givens.Value (values.Bits b)) a_blob) (means (λ n. givens.BitsParameter n) a_parameter)

-- `<` | `<=` | `>` | `>=`
unfoldable pub order_op : Part Op
order_op = alt (mark_for ops.Lt (codes "<")) (alt (mark_for ops.Le (codes "<=")) (alt (mark_for ops.Gt (codes ">")) (mark_for ops.Ge (codes ">="))))

-- ---- terms

-- IN .. | MATCH .. | op ..
unfoldable pub factored_test : Part GivenTest
factored_test = alt member (alt match_of comparison)

-- name ..
unfoldable pub factored_term : Part GivenTerm
factored_term = term_of factored_test

-- term {AND term}
unfoldable pub terms_list : Part (List GivenTerm)
terms_list = parts_with (keyword (codes "AND")) factored_term

unfoldable pub factored_where : Part (List GivenTerm)
factored_where = a_word (codes "WHERE") ▸ terms_list

unfoldable pub maybe_where : Part (List GivenTerm)
maybe_where = or_none factored_where

-- ---- SELECT

unfoldable pub maybe_order : Part Order
maybe_order = means (or_default orders.Unsaid) (opt order)

unfoldable pub maybe_limit : Part (Option Given)
maybe_limit = opt limit

unfoldable pub factored_select : Part GivenSelect
factored_select =
    means (λ x. record { table = x.1.0; items = x.0; where_terms = x.1.1.0; order = x.1.1.1.0; limit = x.1.1.1.1 })
    (a_word (codes "SELECT") ▸ seq items_part (a_word (codes "FROM") ▸ seq a_name (seq maybe_where (seq maybe_order maybe_limit))))

-- ---- the statements

unfoldable pub factored_create : Part GivenStatement
factored_create =
    means (λ x. statements.Create x.0 x.1)
    (a_word (codes "CREATE") ▸ a_word (codes "VIRTUAL") ▸ a_word (codes "TABLE") ▸
    seq a_name (a_word (codes "USING") ▸ a_word (codes "VEC0") ▸ in_parentheses factored_columns))

unfoldable pub factored_update : Part GivenStatement
factored_update =
    means (λ x. statements.Update x.0 x.1.0 x.1.1)
    (a_word (codes "UPDATE") ▸ seq a_name (a_word (codes "SET") ▸ seq (list_of assignment) maybe_where))

unfoldable pub factored_delete : Part GivenStatement
factored_delete =
    means (λ x. statements.Delete x.0 x.1)
    (a_word (codes "DELETE") ▸ a_word (codes "FROM") ▸ seq a_name maybe_where)

unfoldable pub factored_explain : Part GivenStatement
factored_explain = means (λ s. statements.Explain s) (a_word (codes "EXPLAIN") ▸ factored_select)

-- DEFERRED | IMMEDIATE
unfoldable pub mode : Part Bool
mode = alt (word_for false (codes "DEFERRED")) (word_for true (codes "IMMEDIATE"))

unfoldable pub maybe_mode : Part Bool
maybe_mode = means (or_default false) (opt mode)

-- TO [SAVEPOINT] name
unfoldable pub target : Part (List ℕ)
target = a_word (codes "TO") ▸ may_say (codes "SAVEPOINT") ▸ a_name

-- BEGIN .. | COMMIT .. | END .. | ROLLBACK .. | SAVEPOINT .. | RELEASE ..
unfoldable pub transaction : Part GivenStatement
transaction = alt begin (alt commit (alt rollback (alt savepoint release)))

-- select | EXPLAIN select | BEGIN ..
unfoldable pub question : Part GivenStatement
question = alt (means (λ s. statements.Select s) factored_select) (alt factored_explain transaction)

-- CREATE .. | DROP .. | INSERT .. | UPDATE .. | DELETE .. | select ..
unfoldable pub factored_body : Part GivenStatement
factored_body = alt factored_create (alt drop_table (alt insert (alt factored_update (alt factored_delete question))))

unfoldable pub factored_statement : Part GivenStatement
factored_statement = factored_body ◂ opt (a_mark (codes ";"))
