-- The lexemes of a statement's text spell it.
use Rattle.std.proofs.Common.{◌≡◌, ℕ, ◌≤◌, ◌<◌, Bool, true, false, ◌&&◌, List, [], ◌∷◌, ◌++◌, codes, length, Option, Some, None, ◌==◌, refl, sym, ◌∙◌, ap, subst, arith, append_assoc, eqb-true}
use Rattle.std.specs.Prelude.{nat_le, nat_lt, if◌then◌else◌}
use Rattle.std.proofs.lemmas.Bool.{and_parts, leb-true, le-ltb, cond-false}
use Rattle.std.proofs.lemmas.List.{append-nil}
use Rattle.std.specs.List.{list_all, flat_map, AllByRecursion}
use Rattle.vec_base.specs.Words.{is_name}
use Rattle.vec_base.specs.declared.value.Value.{Value}
use Rattle.vec_literal.specs.Lexemes.{Lexeme, word_lexeme, mark_lexeme}
use Rattle.grammar.specs.Grammar.{Part, list_of, seq, alt, opt, means, ◌▸◌, ◌◂◌, a_word, a_mark, a_name, or_default}
use Rattle.grammar.proofs.Lexemes.{LexemesSpell, of_seq, of_means, of_second, of_first, of_left, of_right, of_none, of_some, of_word, of_mark}
use Rattle.grammar.proofs.LexemesGive.{LexemesGive, give_known, give_more, give_seq, give_means, give_second, give_first, give_left, give_right, give_none, give_some}
use Rattle.row_model.specs.declared.schema.Schema.{Schema}
use Rattle.row_model.specs.declared.statement.Delete.{Delete as DeleteRows}
use Rattle.row_model.specs.declared.statement.Insert.{Insert as InsertRows}
use Rattle.row_model.specs.declared.statement.Items.{Items}
use Rattle.row_model.specs.declared.statement.Items.TheVariants as items
use Rattle.row_model.specs.declared.statement.Order.{Order}
use Rattle.row_model.specs.declared.statement.Order.TheVariants as orders
use Rattle.row_model.specs.declared.statement.Select.{Select as SelectRows}
use Rattle.row_model.specs.declared.statement.Statement.{Statement}
use Rattle.row_model.specs.declared.statement.Statement.TheVariants as read
use Rattle.row_model.specs.declared.statement.Update.{Update as UpdateRows}
use Rattle.row_model.specs.Schemas.{IsValidSchema}
use Rattle.row_model.specs.WellFormed.{IsWellFormed, IsWellFormedInsert, IsWellFormedUpdate, IsWellFormedDelete, IsWellFormedSelect, is_filled, is_term, are_items}
use Rattle.vec0_columns.specs.inner.CanonicalLexemes.{canonical_lexemes}
use Rattle.vec0_columns.specs.inner.CanonicalParts.{parts_of}
use Rattle.vec0_columns.proofs.RoundTrip.{name_spelled, canonical_spelled, schema_back, no_fault}
use Rattle.sql_reader.specs.declared.given.Given.{Given}
use Rattle.sql_reader.specs.declared.given.Group.{Group}
use Rattle.sql_reader.specs.declared.given.GivenSelect.{GivenSelect}
use Rattle.sql_reader.specs.declared.given.GivenStatement.{GivenStatement}
use Rattle.sql_reader.specs.declared.given.GivenStatement.TheVariants as statements
use Rattle.sql_reader.specs.GivenStatements.{checks_of, in_limit, in_select, in_groups, in_terms, in_sets, group_checks, uses, item_count, items_in, terms_in}
use Rattle.row_model.specs.RepresentableStatements.{AreRepresentable, IsRepresentableTerm, IsRepresentableAssign, IsRepresentableLimit, IsRepresentableSelect, IsRepresentableStatement}
use Rattle.sql_reader.specs.StatementReading.{Passes, Each, EachOption, MeansValue, MeansTerm, MeansAssign, MeansGroup, MeansSelect, Means, PassesChecks, count_fault, rule_fault}
use Rattle.sql_reader.proofs.Filled.{filled_by}
use Rattle.sql_reader.specs.StatementGrammar.{word_for, may_say, group, by_distance, by_rowid, order, items_part, limit, select, create, drop_table, insert, update, delete, explain, begin, commit, rollback_to, rollback, savepoint, release, body, statement}
use Rattle.vec_sql.proofs.TextLexemes.{listed_lexemes, name_lexemes, group_lexemes, items_lexemes, order_lexemes, limit_lexemes, select_lexemes, create_lexemes, insert_lexemes, update_lexemes, delete_lexemes, begin_lexemes, statement_lexemes}
use Rattle.vec_sql.proofs.TextParts.{each_more, each_length, each_same, AllGive, list_given, ArePlain, StandsFor, value_given}
use Rattle.vec_sql.proofs.TextTerms.{both_good, none_plain, both_plain, values_plain, values_mean, IsTerm, where_given, terms_plain, IsAssign, sets_given, sets_plain, IsRow, row_given}

-- ---- names

names_all : (names : List (List ℕ)) → list_all is_name names ≡ true → AllGive a_name name_lexemes (λ x y. x ≡ y) names
names_all [] h = tt
names_all (n ∷ ns) h = let p = and_parts (is_name n) (list_all is_name ns) h in (give_known (λ (z : List ℕ). z ≡ n) refl (name_spelled n p.0), names_all ns p.1)

names_given : (names : List (List ℕ)) → is_filled names ≡ true → list_all is_name names ≡ true → LexemesGive (list_of a_name) (listed_lexemes name_lexemes names) (λ ns. ns ≡ names)
names_given names some h = give_more (λ ns g. each_same ns names g) (list_given a_name name_lexemes (λ x y. x ≡ y) names some (names_all names h))

-- ---- SELECT

items_given : (i : Items) → are_items i ≡ true → LexemesGive items_part (items_lexemes i) (λ z. z ≡ i)
unfolding items_part
items_given items.All h = give_left (give_known (λ z. z ≡ items.All) refl (of_means (λ x. items.All) (a_mark (codes "*")) (mark_lexeme (codes "*") ∷ []) tt (of_mark (codes "*") refl)))
items_given (items.Named names) h =
    let p = and_parts (list_all is_name names) (is_filled names && nat_le (length names) 64) h in
    let q = and_parts (is_filled names) (nat_le (length names) 64) p.1 in
    give_right (give_means (λ ns. items.Named ns) (λ z. z ≡ items.Named names) (λ ns e. ap (λ z. items.Named z) e) (names_given names q.0 p.0))

few_items : (i : Items) → are_items i ≡ true → item_count i ≤ 64
few_items items.All h = omega arith
few_items (items.Named names) h =
    let p = and_parts (list_all is_name names) (is_filled names && nat_le (length names) 64) h in
    leb-true (length names) 64 (and_parts (is_filled names) (nat_le (length names) 64) p.1).1

order_spelled : (second : List ℕ) (p : Part Order) (o : Order) → LexemesSpell p (word_lexeme second ∷ []) o →
    LexemesSpell (a_word (codes "ORDER") ▸ a_word (codes "BY") ▸ p) (word_lexeme (codes "ORDER") ∷ word_lexeme (codes "BY") ∷ word_lexeme second ∷ []) o
order_spelled second p o h =
    of_second (a_word (codes "ORDER")) (a_word (codes "BY") ▸ p) (word_lexeme (codes "ORDER") ∷ []) (word_lexeme (codes "BY") ∷ word_lexeme second ∷ []) tt o (of_word (codes "ORDER") (codes "ORDER") refl)
    (of_second (a_word (codes "BY")) p (word_lexeme (codes "BY") ∷ []) (word_lexeme second ∷ []) tt o (of_word (codes "BY") (codes "BY") refl) h)

distance_spelled : LexemesSpell by_distance (word_lexeme (codes "distance") ∷ []) orders.ByDistance
unfolding by_distance
distance_spelled =
    of_means (λ x. orders.ByDistance) _ (word_lexeme (codes "distance") ∷ []) (tt, (None, None))
    (of_seq (a_word (codes "DISTANCE")) (seq (may_say (codes "ASC")) (opt (a_mark (codes ",") ▸ a_word (codes "ROWID") ▸ may_say (codes "ASC")))) (word_lexeme (codes "distance") ∷ []) [] tt (None, None) (of_word (codes "DISTANCE") (codes "distance") refl)
    (of_seq (may_say (codes "ASC")) (opt (a_mark (codes ",") ▸ a_word (codes "ROWID") ▸ may_say (codes "ASC"))) [] [] None None (of_none (a_word (codes "ASC"))) (of_none (a_mark (codes ",") ▸ a_word (codes "ROWID") ▸ may_say (codes "ASC")))))

rowid_spelled : LexemesSpell by_rowid (word_lexeme (codes "rowid") ∷ []) orders.ByRowid
unfolding by_rowid
rowid_spelled =
    of_means (λ x. orders.ByRowid) _ (word_lexeme (codes "rowid") ∷ []) (tt, None)
    (of_seq (a_word (codes "ROWID")) (may_say (codes "ASC")) (word_lexeme (codes "rowid") ∷ []) [] tt None (of_word (codes "ROWID") (codes "rowid") refl) (of_none (a_word (codes "ASC"))))

order_given : (o : Order) → LexemesSpell (means (or_default orders.Unsaid) (opt order)) (order_lexemes o) o
unfolding order
order_given orders.Unsaid = of_means (or_default orders.Unsaid) (opt order) [] None (of_none order)
order_given orders.ByDistance =
    of_means (or_default orders.Unsaid) (opt order) (order_lexemes orders.ByDistance) (Some orders.ByDistance)
    (of_some order (order_lexemes orders.ByDistance) orders.ByDistance (order_spelled (codes "distance") (alt by_distance by_rowid) orders.ByDistance (of_left distance_spelled)))
order_given orders.ByRowid =
    of_means (or_default orders.Unsaid) (opt order) (order_lexemes orders.ByRowid) (Some orders.ByRowid)
    (of_some order (order_lexemes orders.ByRowid) orders.ByRowid (order_spelled (codes "rowid") (alt by_distance by_rowid) orders.ByRowid (of_right rowid_spelled)))

limit_given : (l : Option Value) → IsRepresentableLimit l → LexemesGive (opt limit) (limit_lexemes l) (λ o. EachOption StandsFor o l)
unfolding limit
limit_given None held = give_none limit (λ o. EachOption StandsFor o None) tt
limit_given (Some v) held = give_some (λ o. EachOption StandsFor o (Some v)) (λ g h. h) (give_second (of_word (codes "LIMIT") (codes "LIMIT") refl) (value_given v held))

limit_plain : (o : Option Given) (l : Option Value) → EachOption StandsFor o l → ArePlain (in_limit o)
limit_plain None None h = none_plain
limit_plain (Some g) (Some v) h = h.plain
limit_plain None (Some v) h = absurd h
limit_plain (Some g) None h = absurd h

limit_means : (o : Option Given) (l : Option Value) → EachOption StandsFor o l → EachOption (MeansValue []) o l
limit_means None None h = tt
limit_means (Some g) (Some v) h = h.means
limit_means None (Some v) h = absurd h
limit_means (Some g) None h = absurd h

-- what is given is the SELECT
record IsSelect (given : GivenSelect) (chosen : SelectRows) : Type 0 where
  means : MeansSelect [] given chosen
  plain : ArePlain (in_select given)
  few_items : item_count given.items ≤ 64
  few_terms : length given.where_terms ≤ 64

select_given : (chosen : SelectRows) → IsWellFormedSelect chosen → IsRepresentableSelect chosen → LexemesGive select (select_lexemes chosen) (λ g. IsSelect g chosen)
unfolding select
select_given chosen formed held =
    let terms = and_parts (list_all is_term chosen.where_terms) (nat_le (length chosen.where_terms) 64) formed.terms in
    let few : length chosen.where_terms ≤ 64 = leb-true (length chosen.where_terms) 64 terms.1 in
    give_means (λ x. record { table = x.1.0; items = x.0; where_terms = x.1.1.0; order = x.1.1.1.0; limit = x.1.1.1.1 }) (λ g. IsSelect g chosen)
    (λ x h. record {
      means = record {
        table = sym h.1.0;
        items = sym h.0;
        where_terms = each_more IsTerm (MeansTerm []) (λ g t k. k.means) x.1.1.0 chosen.where_terms h.1.1.0;
        order = sym h.1.1.1.0;
        limit = limit_means x.1.1.1.1 chosen.limit h.1.1.1.1;
      };
      plain = both_plain (in_terms x.1.1.0) (in_limit x.1.1.1.1) (terms_plain x.1.1.0 chosen.where_terms h.1.1.0) (limit_plain x.1.1.1.1 chosen.limit h.1.1.1.1);
      few_items = subst (λ (i : Items). item_count i ≤ 64) (sym h.0) (few_items chosen.items formed.items);
      few_terms = omega (arith, each_length IsTerm x.1.1.0 chosen.where_terms h.1.1.0, few);
    })
    (give_second (of_word (codes "SELECT") (codes "SELECT") refl)
    (give_seq (items_given chosen.items formed.items)
    (give_second (of_word (codes "FROM") (codes "FROM") refl)
    (give_seq (give_known (λ (z : List ℕ). z ≡ chosen.table) refl (name_spelled chosen.table formed.table))
    (give_seq (where_given chosen.where_terms terms.0 held.where_terms)
    (give_seq (give_known (λ (z : Order). z ≡ chosen.order) refl (order_given chosen.order)) (limit_given chosen.limit held.limit)))))))

-- ---- rows

some_by : {A : Type 0} (xs : List A) → is_filled xs ≡ true → 0 < length xs
some_by [] h = absurd cc
some_by (x ∷ xs) h = omega arith

rows_all : (count : ℕ) (rows : List (List Value)) → 0 < count → list_all (λ row. length row == count) rows ≡ true → AllByRecursion AreRepresentable rows → AllGive group group_lexemes IsRow rows
rows_all count [] some sized held = tt
rows_all count (row ∷ rows) some sized held =
    let p = and_parts (length row == count) (list_all (λ r. length r == count) rows) sized in
    let size : length row ≡ count = eqb-true (length row) count p.0 in
    (row_given row (filled_by row (omega (arith, size, some))) held.0, rows_all count rows some p.1 held.1)

-- each row has a value for each name, and texts of vectors that spell vectors
rows_fine : (count : ℕ) (gs : List Group) (rows : List (List Value)) → Each IsRow gs rows → list_all (λ row. length row == count) rows ≡ true → AllByRecursion Passes (flat_map (group_checks count) gs)
rows_fine count [] [] h sized = tt
rows_fine count (g ∷ gs) (row ∷ rows) h sized =
    let p = and_parts (length row == count) (list_all (λ r. length r == count) rows) sized in
    let size : (length g.values == count) ≡ true = ap (λ (n : ℕ). n == count) (each_length StandsFor g.values row h.0) ∙ p.0 in
    both_good Passes (group_checks count g) (flat_map (group_checks count) gs)
    (both_good Passes (flat_map checks_of g.values) _ (values_plain g.values row h.0).passed (size, tt)) (rows_fine count gs rows h.1 p.1)
rows_fine count [] (row ∷ rows) h sized = absurd h
rows_fine count (g ∷ gs) [] h sized = absurd h

rows_plain : (gs : List Group) (rows : List (List Value)) → Each IsRow gs rows → ArePlain (in_groups gs)
rows_plain [] [] h = none_plain
rows_plain (g ∷ gs) (row ∷ rows) h = both_plain g.values (in_groups gs) (values_plain g.values row h.0) (rows_plain gs rows h.1)
rows_plain [] (row ∷ rows) h = absurd h
rows_plain (g ∷ gs) [] h = absurd h

-- ---- statements

-- what is given is the statement, without parameters
pub record IsStatement (given : GivenStatement) (s : Statement) : Type 0 where
  pub passed : PassesChecks given
  pub unused : uses given ≡ []
  pub counts : count_fault given ≡ None
  pub rules : rule_fault given ≡ None
  pub means : Means [] given s

counted : (given : GivenStatement) → items_in given ≤ 64 → terms_in given ≤ 64 → count_fault given ≡ None
counted given few_items few_terms =
    cond-false (nat_lt 64 (items_in given)) (Some (items_in given)) (if nat_lt 64 (terms_in given) then Some (terms_in given) else None) (le-ltb 64 (items_in given) few_items)
    ∙ cond-false (nat_lt 64 (terms_in given)) (Some (terms_in given)) None (le-ltb 64 (terms_in given) few_terms)

create_given : (table : List ℕ) (schema : Schema) → is_name table ≡ true → IsValidSchema schema → LexemesGive create (create_lexemes table (canonical_lexemes schema)) (λ g. IsStatement g (read.Create table schema))
unfolding create
create_given table schema n valid =
    give_means (λ x. statements.Create x.0 x.1) (λ g. IsStatement g (read.Create table schema))
    (λ x h. subst (λ z. IsStatement (statements.Create z x.1) (read.Create table schema)) (sym h.0)
    (subst (λ z. IsStatement (statements.Create table z) (read.Create table schema)) (sym h.1)
    (record { passed = tt; unused = refl; counts = refl; rules = no_fault schema valid.rules; means = ap (λ z. read.Create table z) (sym (schema_back schema)) })))
    (give_second (of_word (codes "CREATE") (codes "CREATE") refl)
    (give_second (of_word (codes "VIRTUAL") (codes "VIRTUAL") refl)
    (give_second (of_word (codes "TABLE") (codes "TABLE") refl)
    (give_seq (give_known (λ (z : List ℕ). z ≡ table) refl (name_spelled table n))
    (give_second (of_word (codes "USING") (codes "USING") refl)
    (give_second (of_word (codes "VEC0") (codes "vec0") refl)
    (give_second (of_mark (codes "(") refl) (give_first (give_known (λ z. z ≡ parts_of schema) refl (canonical_spelled schema valid)) (of_mark (codes ")") refl)))))))))

drop_given : (table : List ℕ) → is_name table ≡ true → LexemesGive drop_table (statement_lexemes (read.Drop table)) (λ g. IsStatement g (read.Drop table))
unfolding drop_table
drop_given table n =
    give_means (λ name. statements.Drop name) (λ g. IsStatement g (read.Drop table))
    (λ name e. record { passed = tt; unused = refl; counts = refl; rules = refl; means = ap (λ z. read.Drop z) (sym e) })
    (give_second (of_word (codes "DROP") (codes "DROP") refl)
    (give_second (of_word (codes "TABLE") (codes "TABLE") refl) (give_known (λ (z : List ℕ). z ≡ table) refl (name_spelled table n))))

insert_given : (chosen : InsertRows) → IsWellFormedInsert chosen → AllByRecursion AreRepresentable chosen.rows → LexemesGive insert (insert_lexemes chosen) (λ g. IsStatement g (read.Insert chosen))
unfolding insert
insert_given chosen formed held =
    let seam = append_assoc (listed_lexemes name_lexemes chosen.columns) (mark_lexeme (codes ")") ∷ []) (word_lexeme (codes "VALUES") ∷ listed_lexemes group_lexemes chosen.rows) in
    subst (λ (z : List Lexeme). LexemesGive insert (word_lexeme (codes "INSERT") ∷ word_lexeme (codes "INTO") ∷ word_lexeme chosen.table ∷ mark_lexeme (codes "(") ∷ z) (λ g. IsStatement g (read.Insert chosen))) seam
    (give_means (λ x. statements.Insert x.0 x.1.0 x.1.1) (λ g. IsStatement g (read.Insert chosen))
    (λ x h. record {
      passed = subst (λ (names : List (List ℕ)). AllByRecursion Passes (flat_map (group_checks (length names)) x.1.1)) (sym h.1.0) (rows_fine (length chosen.columns) x.1.1 chosen.rows h.1.1 formed.one_value_each);
      unused = (rows_plain x.1.1 chosen.rows h.1.1).unused;
      counts = refl;
      rules = refl;
      means = (chosen, record { table = sym h.0; columns = sym h.1.0; rows = each_more IsRow (MeansGroup []) (λ g row k. values_mean g.values row k) x.1.1 chosen.rows h.1.1 }, refl);
    })
    (give_second (of_word (codes "INSERT") (codes "INSERT") refl)
    (give_second (of_word (codes "INTO") (codes "INTO") refl)
    (give_seq (give_known (λ (z : List ℕ). z ≡ chosen.table) refl (name_spelled chosen.table formed.table))
    (give_seq (give_second (of_mark (codes "(") refl) (give_first (names_given chosen.columns formed.some_name formed.names) (of_mark (codes ")") refl)))
    (give_second (of_word (codes "VALUES") (codes "VALUES") refl)
    (list_given group group_lexemes IsRow chosen.rows formed.some_row (rows_all (length chosen.columns) chosen.rows (some_by chosen.columns formed.some_name) formed.one_value_each held))))))))

update_given : (chosen : UpdateRows) → IsWellFormedUpdate chosen → AllByRecursion IsRepresentableAssign chosen.sets → AllByRecursion IsRepresentableTerm chosen.where_terms → LexemesGive update (update_lexemes chosen) (λ g. IsStatement g (read.Update chosen))
unfolding update
update_given chosen formed sets where_terms =
    let terms = and_parts (list_all is_term chosen.where_terms) (nat_le (length chosen.where_terms) 64) formed.terms in
    let few : length chosen.where_terms ≤ 64 = leb-true (length chosen.where_terms) 64 terms.1 in
    give_means (λ x. statements.Update x.0 x.1.0 x.1.1) (λ g. IsStatement g (read.Update chosen))
    (λ x h. (let plain : ArePlain (in_sets x.1.0 ++ in_terms x.1.1) = both_plain (in_sets x.1.0) (in_terms x.1.1) (sets_plain x.1.0 chosen.sets h.1.0) (terms_plain x.1.1 chosen.where_terms h.1.1) in
    record {
      passed = plain.passed;
      unused = plain.unused;
      counts = counted (statements.Update x.0 x.1.0 x.1.1) (omega arith) (omega (arith, each_length IsTerm x.1.1 chosen.where_terms h.1.1, few));
      rules = refl;
      means = (
        chosen,
        record {
          table = sym h.0;
          sets = each_more IsAssign (MeansAssign []) (λ g t k. k.means) x.1.0 chosen.sets h.1.0;
          where_terms = each_more IsTerm (MeansTerm []) (λ g t k. k.means) x.1.1 chosen.where_terms h.1.1;
        },
        refl,
      );
    }))
    (give_second (of_word (codes "UPDATE") (codes "UPDATE") refl)
    (give_seq (give_known (λ (z : List ℕ). z ≡ chosen.table) refl (name_spelled chosen.table formed.table))
    (give_second (of_word (codes "SET") (codes "SET") refl)
    (give_seq (sets_given chosen.sets formed.some_set formed.names sets) (where_given chosen.where_terms terms.0 where_terms)))))

delete_given : (chosen : DeleteRows) → IsWellFormedDelete chosen → AllByRecursion IsRepresentableTerm chosen.where_terms → LexemesGive delete (delete_lexemes chosen) (λ g. IsStatement g (read.Delete chosen))
unfolding delete
delete_given chosen formed where_terms =
    let terms = and_parts (list_all is_term chosen.where_terms) (nat_le (length chosen.where_terms) 64) formed.terms in
    let few : length chosen.where_terms ≤ 64 = leb-true (length chosen.where_terms) 64 terms.1 in
    give_means (λ x. statements.Delete x.0 x.1) (λ g. IsStatement g (read.Delete chosen))
    (λ x h. (let plain : ArePlain (in_terms x.1) = terms_plain x.1 chosen.where_terms h.1 in
    record {
      passed = plain.passed;
      unused = plain.unused;
      counts = counted (statements.Delete x.0 x.1) (omega arith) (omega (arith, each_length IsTerm x.1 chosen.where_terms h.1, few));
      rules = refl;
      means = (chosen, record { table = sym h.0; where_terms = each_more IsTerm (MeansTerm []) (λ g t k. k.means) x.1 chosen.where_terms h.1 }, refl);
    }))
    (give_second (of_word (codes "DELETE") (codes "DELETE") refl)
    (give_second (of_word (codes "FROM") (codes "FROM") refl)
    (give_seq (give_known (λ (z : List ℕ). z ≡ chosen.table) refl (name_spelled chosen.table formed.table)) (where_given chosen.where_terms terms.0 where_terms))))

chosen_given : (chosen : SelectRows) → IsWellFormedSelect chosen → IsRepresentableSelect chosen → LexemesGive (means (λ g. statements.Select g) select) (select_lexemes chosen) (λ g. IsStatement g (read.Select chosen))
chosen_given chosen formed held =
    give_means (λ g. statements.Select g) (λ g. IsStatement g (read.Select chosen))
    (λ g h. record { passed = h.plain.passed; unused = h.plain.unused; counts = counted (statements.Select g) h.few_items h.few_terms; rules = refl; means = (chosen, h.means, refl) })
    (select_given chosen formed held)

explain_given : (chosen : SelectRows) → IsWellFormedSelect chosen → IsRepresentableSelect chosen → LexemesGive explain (statement_lexemes (read.Explain chosen)) (λ g. IsStatement g (read.Explain chosen))
unfolding explain
explain_given chosen formed held =
    give_means (λ g. statements.Explain g) (λ g. IsStatement g (read.Explain chosen))
    (λ g h. record { passed = h.plain.passed; unused = h.plain.unused; counts = counted (statements.Explain g) h.few_items h.few_terms; rules = refl; means = (chosen, h.means, refl) })
    (give_second (of_word (codes "EXPLAIN") (codes "EXPLAIN") refl) (select_given chosen formed held))

-- a word that is left out
left_out : (w : List ℕ) → LexemesSpell (may_say w) [] None
left_out w = of_none (a_word w)

begin_given : (immediate : Bool) → LexemesSpell begin (begin_lexemes immediate) (statements.Begin immediate)
unfolding begin
begin_given false =
    of_means (λ b. statements.Begin b) _ (word_lexeme (codes "BEGIN") ∷ []) false
    (of_second (a_word (codes "BEGIN")) _ (word_lexeme (codes "BEGIN") ∷ []) [] tt false (of_word (codes "BEGIN") (codes "BEGIN") refl)
    (of_first _ (may_say (codes "TRANSACTION")) [] [] false None
    (of_means (or_default false) (opt (alt (word_for false (codes "DEFERRED")) (word_for true (codes "IMMEDIATE")))) [] None (of_none _)) (left_out (codes "TRANSACTION"))))
begin_given true =
    of_means (λ b. statements.Begin b) _ (word_lexeme (codes "BEGIN") ∷ word_lexeme (codes "IMMEDIATE") ∷ []) true
    (of_second (a_word (codes "BEGIN")) _ (word_lexeme (codes "BEGIN") ∷ []) (word_lexeme (codes "IMMEDIATE") ∷ []) tt true (of_word (codes "BEGIN") (codes "BEGIN") refl)
    (of_first _ (may_say (codes "TRANSACTION")) (word_lexeme (codes "IMMEDIATE") ∷ []) [] true None
    (of_means (or_default false) (opt (alt (word_for false (codes "DEFERRED")) (word_for true (codes "IMMEDIATE")))) (word_lexeme (codes "IMMEDIATE") ∷ []) (Some true)
    (of_some _ (word_lexeme (codes "IMMEDIATE") ∷ []) true (of_right (of_means (λ x. true) (a_word (codes "IMMEDIATE")) (word_lexeme (codes "IMMEDIATE") ∷ []) tt (of_word (codes "IMMEDIATE") (codes "IMMEDIATE") refl)))))
    (left_out (codes "TRANSACTION"))))

commit_given : LexemesSpell commit (word_lexeme (codes "COMMIT") ∷ []) statements.Commit
unfolding commit
commit_given =
    of_left (of_first (word_for statements.Commit (codes "COMMIT")) (may_say (codes "TRANSACTION")) (word_lexeme (codes "COMMIT") ∷ []) [] statements.Commit None
    (of_means (λ x. statements.Commit) (a_word (codes "COMMIT")) (word_lexeme (codes "COMMIT") ∷ []) tt (of_word (codes "COMMIT") (codes "COMMIT") refl)) (left_out (codes "TRANSACTION")))

rolled_back : LexemesSpell rollback (word_lexeme (codes "ROLLBACK") ∷ []) statements.Rollback
unfolding rollback
rolled_back =
    of_means rollback_to _ (word_lexeme (codes "ROLLBACK") ∷ []) None
    (of_second (a_word (codes "ROLLBACK")) _ (word_lexeme (codes "ROLLBACK") ∷ []) [] tt None (of_word (codes "ROLLBACK") (codes "ROLLBACK") refl)
    (of_second (may_say (codes "TRANSACTION")) (opt (a_word (codes "TO") ▸ may_say (codes "SAVEPOINT") ▸ a_name)) [] [] None None (left_out (codes "TRANSACTION")) (of_none (a_word (codes "TO") ▸ may_say (codes "SAVEPOINT") ▸ a_name))))

rolled_to : (name : List ℕ) → is_name name ≡ true → LexemesSpell rollback (word_lexeme (codes "ROLLBACK") ∷ word_lexeme (codes "TO") ∷ word_lexeme name ∷ []) (statements.RollbackTo name)
unfolding rollback
rolled_to name n =
    of_means rollback_to _ (word_lexeme (codes "ROLLBACK") ∷ word_lexeme (codes "TO") ∷ word_lexeme name ∷ []) (Some name)
    (of_second (a_word (codes "ROLLBACK")) _ (word_lexeme (codes "ROLLBACK") ∷ []) (word_lexeme (codes "TO") ∷ word_lexeme name ∷ []) tt (Some name) (of_word (codes "ROLLBACK") (codes "ROLLBACK") refl)
    (of_second (may_say (codes "TRANSACTION")) (opt (a_word (codes "TO") ▸ may_say (codes "SAVEPOINT") ▸ a_name)) [] (word_lexeme (codes "TO") ∷ word_lexeme name ∷ []) None (Some name) (left_out (codes "TRANSACTION"))
    (of_some (a_word (codes "TO") ▸ may_say (codes "SAVEPOINT") ▸ a_name) (word_lexeme (codes "TO") ∷ word_lexeme name ∷ []) name
    (of_second (a_word (codes "TO")) (may_say (codes "SAVEPOINT") ▸ a_name) (word_lexeme (codes "TO") ∷ []) (word_lexeme name ∷ []) tt name (of_word (codes "TO") (codes "TO") refl)
    (of_second (may_say (codes "SAVEPOINT")) a_name [] (word_lexeme name ∷ []) None name (left_out (codes "SAVEPOINT")) (name_spelled name n))))))

savepoint_given : (name : List ℕ) → is_name name ≡ true → LexemesSpell savepoint (word_lexeme (codes "SAVEPOINT") ∷ word_lexeme name ∷ []) (statements.Savepoint name)
unfolding savepoint
savepoint_given name n =
    of_means (λ z. statements.Savepoint z) (a_word (codes "SAVEPOINT") ▸ a_name) (word_lexeme (codes "SAVEPOINT") ∷ word_lexeme name ∷ []) name
    (of_second (a_word (codes "SAVEPOINT")) a_name (word_lexeme (codes "SAVEPOINT") ∷ []) (word_lexeme name ∷ []) tt name (of_word (codes "SAVEPOINT") (codes "SAVEPOINT") refl) (name_spelled name n))

release_given : (name : List ℕ) → is_name name ≡ true → LexemesSpell release (word_lexeme (codes "RELEASE") ∷ word_lexeme name ∷ []) (statements.Release name)
unfolding release
release_given name n =
    of_means (λ z. statements.Release z) (a_word (codes "RELEASE") ▸ may_say (codes "SAVEPOINT") ▸ a_name) (word_lexeme (codes "RELEASE") ∷ word_lexeme name ∷ []) name
    (of_second (a_word (codes "RELEASE")) (may_say (codes "SAVEPOINT") ▸ a_name) (word_lexeme (codes "RELEASE") ∷ []) (word_lexeme name ∷ []) tt name (of_word (codes "RELEASE") (codes "RELEASE") refl)
    (of_second (may_say (codes "SAVEPOINT")) a_name [] (word_lexeme name ∷ []) None name (left_out (codes "SAVEPOINT")) (name_spelled name n)))

-- a statement without values
simply : (given : GivenStatement) (s : Statement) → PassesChecks given → uses given ≡ [] → count_fault given ≡ None → rule_fault given ≡ None → Means [] given s → IsStatement given s
simply given s f u c r m = record { passed = f; unused = u; counts = c; rules = r; means = m }

body_given : (s : Statement) → IsWellFormed s → IsRepresentableStatement s → LexemesGive body (statement_lexemes s) (λ g. IsStatement g s)
unfolding body
body_given (read.Create table schema) formed held = give_left (create_given table schema formed.named formed.valid)
body_given (read.Drop table) formed held = give_right (give_left (drop_given table formed))
body_given (read.Insert chosen) formed held = give_right (give_right (give_left (insert_given chosen formed held)))
body_given (read.Update chosen) formed held = give_right (give_right (give_right (give_left (update_given chosen formed held.0 held.1))))
body_given (read.Delete chosen) formed held = give_right (give_right (give_right (give_right (give_left (delete_given chosen formed held)))))
body_given (read.Select chosen) formed held = give_right (give_right (give_right (give_right (give_right (give_left (chosen_given chosen formed held))))))
body_given (read.Explain chosen) formed held = give_right (give_right (give_right (give_right (give_right (give_right (give_left (explain_given chosen formed held)))))))
body_given (read.Begin immediate) formed held =
    give_right (give_right (give_right (give_right (give_right (give_right (give_right (give_left
    (give_known (λ g. IsStatement g (read.Begin immediate)) (simply (statements.Begin immediate) (read.Begin immediate) tt refl refl refl refl) (begin_given immediate)))))))))
body_given read.Commit formed held =
    give_right (give_right (give_right (give_right (give_right (give_right (give_right (give_right (give_left
    (give_known (λ g. IsStatement g read.Commit) (simply statements.Commit read.Commit tt refl refl refl refl) commit_given)))))))))
body_given read.Rollback formed held =
    give_right (give_right (give_right (give_right (give_right (give_right (give_right (give_right (give_right (give_left
    (give_known (λ g. IsStatement g read.Rollback) (simply statements.Rollback read.Rollback tt refl refl refl refl) rolled_back))))))))))
body_given (read.RollbackTo name) formed held =
    give_right (give_right (give_right (give_right (give_right (give_right (give_right (give_right (give_right (give_left
    (give_known (λ g. IsStatement g (read.RollbackTo name)) (simply (statements.RollbackTo name) (read.RollbackTo name) tt refl refl refl refl) (rolled_to name formed)))))))))))
body_given (read.Savepoint name) formed held =
    give_right (give_right (give_right (give_right (give_right (give_right (give_right (give_right (give_right (give_right (give_left
    (give_known (λ g. IsStatement g (read.Savepoint name)) (simply (statements.Savepoint name) (read.Savepoint name) tt refl refl refl refl) (savepoint_given name formed))))))))))))
body_given (read.Release name) formed held =
    give_right (give_right (give_right (give_right (give_right (give_right (give_right (give_right (give_right (give_right (give_right
    (give_known (λ g. IsStatement g (read.Release name)) (simply (statements.Release name) (read.Release name) tt refl refl refl refl) (release_given name formed))))))))))))

pub statement_given : (s : Statement) → IsWellFormed s → IsRepresentableStatement s → LexemesGive statement (statement_lexemes s) (λ g. IsStatement g s)
unfolding statement
statement_given s formed held =
    subst (λ (ls : List Lexeme). LexemesGive (body ◂ opt (a_mark (codes ";"))) ls (λ g. IsStatement g s)) (append-nil (statement_lexemes s))
    (give_first (body_given s formed held) (of_none (a_mark (codes ";"))))
