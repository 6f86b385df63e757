-- The grammar's lines of statements and their factored forms are the same.
use Rattle.std.proofs.Common.{◌≡◌, List, [], ◌∷◌, true, refl}
use Rattle.std.specs.Prelude.{codes, ℕ}
use Rattle.grammar.specs.Grammar.{Part, seq, alt, opt, means, list_of, a_word, a_mark, a_name, a_signed_number, or_default}
use Rattle.grammar.specs.inner.Reading.{decides, overlap}
use Rattle.grammar.proofs.Factoring.{Within, Same, within_refl, within_left, within_right, within_later, within_either, within_means, within_seq, spread, same_refl, same_means, same_seq, same_alt, same_opt, same_many, same_behind, same_before}
use Rattle.vec_base.specs.Words.{is_reserved}
use Rattle.vec0_columns.specs.ColumnGrammar.{columns, metric, integer_word, boolean_word, int8, bits, chunk_size}
use Rattle.vec0_columns.specs.inner.FactoredColumns.{factored_columns, key, integer_kind, text_kind, text_or_boolean, scalar_kind, kind, auxiliary_kind, factored_arg}
use Rattle.vec0_columns.proofs.ColumnLines.{columns_same}
use Rattle.sql_reader.specs.declared.given.GivenTest.{GivenTest}
use Rattle.sql_reader.specs.declared.given.GivenTerm.{GivenTerm}
use Rattle.sql_reader.specs.declared.given.GivenStatement.TheVariants as statements
use Rattle.sql_reader.specs.StatementGrammar.{term_of, comparison, member, match_of, term, where_part, or_none, order, by_distance, by_rowid, items_part, limit, select, create, drop_table, insert, assignment, update, delete, explain, begin, commit, rollback, savepoint, release, body, statement, op, value, vec_int8, vec_bit, group}
use Rattle.sql_reader.specs.inner.FactoredStatements.{factored_test, factored_term, terms_list, factored_where, maybe_where, maybe_order, maybe_limit, factored_select, factored_create, factored_update, factored_delete, factored_explain, transaction, question, factored_body, factored_statement}

-- ---- terms

abbrev named : List ℕ × GivenTest → GivenTerm
named x = record { column = x.0; test = x.1 }

term_within : (p q : Part GivenTest) → Within p q → Within (term_of p) (term_of q)
term_within p q a = within_means (λ x. record { column = x.0; test = x.1 }) (seq a_name p) (seq a_name q) (within_seq a_name a_name p q (within_refl a_name) a)

either_term : (p q : Part GivenTest) (r : Part GivenTerm) → Within (term_of p) r → Within (term_of q) r → Within (term_of (alt p q)) r
either_term p q r a b = spread (λ x. record { column = x.0; test = x.1 }) a_name p q r a b

term_same : Same factored_term term
unfolding factored_term factored_test term
term_same = record {
  there = either_term member (alt match_of comparison) term
      (within_later (term_of member) (term_of comparison) (alt (term_of member) (term_of match_of)) (within_left (term_of member) (term_of match_of)))
      (either_term match_of comparison term
      (within_later (term_of match_of) (term_of comparison) (alt (term_of member) (term_of match_of)) (within_right (term_of member) (term_of match_of)))
      (within_left (term_of comparison) (alt (term_of member) (term_of match_of))));
  back = within_either (term_of comparison) (alt (term_of member) (term_of match_of)) factored_term
      (term_within comparison factored_test (within_later comparison member (alt match_of comparison) (within_right match_of comparison)))
      (within_either (term_of member) (term_of match_of) factored_term
      (term_within member factored_test (within_left member (alt match_of comparison)))
      (term_within match_of factored_test (within_later match_of member (alt match_of comparison) (within_left match_of comparison))));
}

where_same : Same factored_where where_part
unfolding factored_where terms_list where_part
where_same =
    same_behind (a_word (codes "WHERE")) _ _
    (same_means (λ x. x.0 ∷ x.1) _ _ (same_seq factored_term term _ _ term_same (same_many _ _ (same_behind (a_word (codes "AND")) factored_term term term_same))))

maybe_where_same : Same maybe_where (or_none where_part)
unfolding maybe_where
maybe_where_same = same_means (or_default []) (opt factored_where) (opt where_part) (same_opt factored_where where_part where_same)

-- ---- statements

select_same : Same factored_select select
unfolding factored_select select maybe_order maybe_limit
select_same =
    same_means (λ x. record { table = x.1.0; items = x.0; where_terms = x.1.1.0; order = x.1.1.1.0; limit = x.1.1.1.1 }) _ _
    (same_behind (a_word (codes "SELECT")) _ _
    (same_seq items_part items_part _ _ (same_refl items_part)
    (same_behind (a_word (codes "FROM")) _ _
    (same_seq a_name a_name _ _ (same_refl a_name)
    (same_seq maybe_where (or_none where_part) _ _ maybe_where_same (same_refl (seq maybe_order maybe_limit)))))))

create_same : Same factored_create create
unfolding factored_create create
create_same =
    same_means (λ x. statements.Create x.0 x.1) _ _
    (same_behind (a_word (codes "CREATE")) _ _
    (same_behind (a_word (codes "VIRTUAL")) _ _
    (same_behind (a_word (codes "TABLE")) _ _
    (same_seq a_name a_name _ _ (same_refl a_name)
    (same_behind (a_word (codes "USING")) _ _
    (same_behind (a_word (codes "VEC0")) _ _
    (same_behind (a_mark (codes "(")) _ _
    (same_before (a_mark (codes ")")) factored_columns columns columns_same))))))))

update_same : Same factored_update update
unfolding factored_update update
update_same =
    same_means (λ x. statements.Update x.0 x.1.0 x.1.1) _ _
    (same_behind (a_word (codes "UPDATE")) _ _
    (same_seq a_name a_name _ _ (same_refl a_name)
    (same_behind (a_word (codes "SET")) _ _
    (same_seq (list_of assignment) (list_of assignment) maybe_where (or_none where_part) (same_refl (list_of assignment)) maybe_where_same))))

delete_same : Same factored_delete delete
unfolding factored_delete delete
delete_same =
    same_means (λ x. statements.Delete x.0 x.1) _ _
    (same_behind (a_word (codes "DELETE")) _ _
    (same_behind (a_word (codes "FROM")) _ _
    (same_seq a_name a_name maybe_where (or_none where_part) (same_refl a_name) maybe_where_same)))

explain_same : Same factored_explain explain
unfolding factored_explain explain
explain_same = same_means (λ s. statements.Explain s) _ _ (same_behind (a_word (codes "EXPLAIN")) factored_select select select_same)

body_same : Same factored_body body
unfolding factored_body question transaction body
body_same =
    same_alt factored_create create _ _ create_same
    (same_alt drop_table drop_table _ _ (same_refl drop_table)
    (same_alt insert insert _ _ (same_refl insert)
    (same_alt factored_update update _ _ update_same
    (same_alt factored_delete delete _ _ delete_same
    (same_alt (means (λ s. statements.Select s) factored_select) (means (λ s. statements.Select s) select) _ _ (same_means (λ s. statements.Select s) factored_select select select_same)
    (same_alt factored_explain explain transaction transaction explain_same (same_refl transaction)))))))

pub statement_same : Same factored_statement statement
unfolding factored_statement statement
statement_same = same_before (opt (a_mark (codes ";"))) factored_body body body_same

-- the next token decides each choice
pub statement_decides : decides factored_statement ≡ true
unfolding factored_statement factored_body question transaction begin commit rollback savepoint release factored_explain factored_select factored_delete factored_update factored_create insert drop_table maybe_order maybe_limit maybe_where factored_where terms_list factored_term factored_test comparison member match_of order by_distance by_rowid items_part limit assignment group value vec_int8 vec_bit op a_signed_number factored_columns factored_arg auxiliary_kind kind scalar_kind text_or_boolean text_kind integer_kind key metric integer_word boolean_word int8 bits chunk_size overlap is_reserved
statement_decides = refl
