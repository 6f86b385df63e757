-- The lexemes of the text of a statement.
use Rattle.std.specs.Prelude.{ℕ, List, [], ◌∷◌, ◌++◌, codes, Option, Some, None, Bool, true, false}
use Rattle.std.specs.List.{flat_map}
use Rattle.vec_base.specs.declared.value.Value.{Value}
use Rattle.vec_literal.specs.Lexemes.{Lexeme, word_lexeme, mark_lexeme}
use Rattle.vec_literal.proofs.ValuesBefore.{value_lexemes}
use Rattle.row_model.specs.declared.statement.Assign.{Assign}
use Rattle.row_model.specs.declared.statement.Constraint.{Constraint}
use Rattle.row_model.specs.declared.statement.Delete.{Delete as DeleteRows}
use Rattle.row_model.specs.declared.statement.Insert.{Insert as InsertRows}
use Rattle.row_model.specs.declared.statement.Items.{Items}
use Rattle.row_model.specs.declared.statement.Items.TheVariants.{All, Named}
use Rattle.row_model.specs.declared.statement.Order.{Order}
use Rattle.row_model.specs.declared.statement.Order.TheVariants.{Unsaid, ByDistance, ByRowid}
use Rattle.row_model.specs.declared.statement.Select.{Select as SelectRows}
use Rattle.row_model.specs.declared.statement.Statement.{Statement}
use Rattle.row_model.specs.declared.statement.Statement.TheVariants.{Create, Drop, Insert, Update, Delete, Select, Explain, Begin, Commit, Rollback, RollbackTo, Savepoint, Release}
use Rattle.row_model.specs.declared.statement.Test.{Test}
use Rattle.row_model.specs.declared.statement.Test.TheVariants.{Compare, Member, Match}
use Rattle.row_model.specs.declared.statement.Update.{Update as UpdateRows}
use Rattle.vec0_columns.specs.inner.CanonicalLexemes.{canonical_lexemes}
use Rattle.vec_sql.specs.CanonicalStatements.{op_text}

-- ---- lists

-- the elements behind another one, each with the separator before it
abbrev pub behind_lexemes : {A : Type 0} → Lexeme → (A → List Lexeme) → List A → List Lexeme
behind_lexemes separator words xs = flat_map (λ x. separator ∷ words x) xs

abbrev pub separated_lexemes : {A : Type 0} → Lexeme → (A → List Lexeme) → List A → List Lexeme
separated_lexemes separator words [] = []
separated_lexemes separator words (x ∷ xs) = words x ++ behind_lexemes separator words xs

abbrev pub listed_lexemes : {A : Type 0} → (A → List Lexeme) → List A → List Lexeme
listed_lexemes words xs = separated_lexemes (mark_lexeme (codes ",")) words xs

abbrev pub name_lexemes : List ℕ → List Lexeme
name_lexemes name = word_lexeme name ∷ []

abbrev pub group_lexemes : List Value → List Lexeme
group_lexemes values = mark_lexeme (codes "(") ∷ (listed_lexemes value_lexemes values ++ mark_lexeme (codes ")") ∷ [])

-- ---- WHERE and SET

abbrev pub test_lexemes : Test → List Lexeme
test_lexemes (Compare op value) = mark_lexeme (op_text op) ∷ value_lexemes value
test_lexemes (Member values) = word_lexeme (codes "IN") ∷ group_lexemes values
test_lexemes (Match value) = word_lexeme (codes "MATCH") ∷ value_lexemes value

abbrev pub term_lexemes : Constraint → List Lexeme
term_lexemes term = word_lexeme term.column ∷ test_lexemes term.test

abbrev pub where_lexemes : List Constraint → List Lexeme
where_lexemes [] = []
where_lexemes (term ∷ terms) = word_lexeme (codes "WHERE") ∷ separated_lexemes (word_lexeme (codes "AND")) term_lexemes (term ∷ terms)

abbrev pub assign_lexemes : Assign → List Lexeme
assign_lexemes set = word_lexeme set.column ∷ mark_lexeme (codes "=") ∷ value_lexemes set.value

-- ---- SELECT

abbrev pub items_lexemes : Items → List Lexeme
items_lexemes All = mark_lexeme (codes "*") ∷ []
items_lexemes (Named names) = listed_lexemes name_lexemes names

abbrev pub order_lexemes : Order → List Lexeme
order_lexemes Unsaid = []
order_lexemes ByDistance = word_lexeme (codes "ORDER") ∷ word_lexeme (codes "BY") ∷ word_lexeme (codes "distance") ∷ []
order_lexemes ByRowid = word_lexeme (codes "ORDER") ∷ word_lexeme (codes "BY") ∷ word_lexeme (codes "rowid") ∷ []

abbrev pub limit_lexemes : Option Value → List Lexeme
limit_lexemes None = []
limit_lexemes (Some value) = word_lexeme (codes "LIMIT") ∷ value_lexemes value

-- what stands behind the table's name
abbrev pub tail_lexemes : SelectRows → List Lexeme
tail_lexemes select = where_lexemes select.where_terms ++ (order_lexemes select.order ++ limit_lexemes select.limit)

abbrev pub select_lexemes : SelectRows → List Lexeme
select_lexemes select =
    word_lexeme (codes "SELECT") ∷ (items_lexemes select.items ++ word_lexeme (codes "FROM") ∷ word_lexeme select.table ∷ tail_lexemes select)

-- ---- statements

abbrev pub create_lexemes : List ℕ → List Lexeme → List Lexeme
create_lexemes table columns =
    word_lexeme (codes "CREATE") ∷ word_lexeme (codes "VIRTUAL") ∷ word_lexeme (codes "TABLE") ∷ word_lexeme table ∷
    word_lexeme (codes "USING") ∷ word_lexeme (codes "vec0") ∷ mark_lexeme (codes "(") ∷ (columns ++ mark_lexeme (codes ")") ∷ [])

abbrev pub insert_lexemes : InsertRows → List Lexeme
insert_lexemes insert =
    word_lexeme (codes "INSERT") ∷ word_lexeme (codes "INTO") ∷ word_lexeme insert.table ∷ mark_lexeme (codes "(") ∷
    (listed_lexemes name_lexemes insert.columns ++ mark_lexeme (codes ")") ∷ word_lexeme (codes "VALUES") ∷ listed_lexemes group_lexemes insert.rows)

abbrev pub update_lexemes : UpdateRows → List Lexeme
update_lexemes update =
    word_lexeme (codes "UPDATE") ∷ word_lexeme update.table ∷ word_lexeme (codes "SET") ∷
    (listed_lexemes assign_lexemes update.sets ++ where_lexemes update.where_terms)

abbrev pub delete_lexemes : DeleteRows → List Lexeme
delete_lexemes delete = word_lexeme (codes "DELETE") ∷ word_lexeme (codes "FROM") ∷ word_lexeme delete.table ∷ where_lexemes delete.where_terms

abbrev pub begin_lexemes : Bool → List Lexeme
begin_lexemes false = word_lexeme (codes "BEGIN") ∷ []
begin_lexemes true = word_lexeme (codes "BEGIN") ∷ word_lexeme (codes "IMMEDIATE") ∷ []

abbrev pub statement_lexemes : Statement → List Lexeme
statement_lexemes (Create table schema) = create_lexemes table (canonical_lexemes schema)
statement_lexemes (Drop table) = word_lexeme (codes "DROP") ∷ word_lexeme (codes "TABLE") ∷ word_lexeme table ∷ []
statement_lexemes (Insert insert) = insert_lexemes insert
statement_lexemes (Update update) = update_lexemes update
statement_lexemes (Delete delete) = delete_lexemes delete
statement_lexemes (Select select) = select_lexemes select
statement_lexemes (Explain select) = word_lexeme (codes "EXPLAIN") ∷ select_lexemes select
statement_lexemes (Begin immediate) = begin_lexemes immediate
statement_lexemes Commit = word_lexeme (codes "COMMIT") ∷ []
statement_lexemes Rollback = word_lexeme (codes "ROLLBACK") ∷ []
statement_lexemes (RollbackTo name) = word_lexeme (codes "ROLLBACK") ∷ word_lexeme (codes "TO") ∷ word_lexeme name ∷ []
statement_lexemes (Savepoint name) = word_lexeme (codes "SAVEPOINT") ∷ word_lexeme name ∷ []
statement_lexemes (Release name) = word_lexeme (codes "RELEASE") ∷ word_lexeme name ∷ []
