-- A statement that a text spells is well formed.
use Rattle.std.proofs.Common.{◌≡◌, ℕ, ◌<◌, Bool, true, inl, inr, List, [], ◌∷◌, ◌++◌, length, Option, Some, None, refl, sym, ◌∙◌, ap, subst, arith}
use Rattle.std.specs.Prelude.{◌&&◌, ◌==◌, nat_le, nat_lt, if◌then◌else◌}
use Rattle.std.specs.List.{AllByRecursion, flat_map, list_all}
use Rattle.std.proofs.lemmas.Bool.{and_parts, and_from, cases_Bool, cases_lt, cond-true, cond-false, lt-ltb, le-leb}
use Rattle.vec_base.specs.Words.{is_name}
use Rattle.vec_base.specs.declared.value.Value.{Value}
use Rattle.row_model.specs.Schemas.{schema_fault, IsValidSchema}
use Rattle.row_model.specs.WellFormed.{is_filled, are_items, is_whole_test, is_term, are_terms, IsWellFormed, IsWellFormedInsert, IsWellFormedUpdate, IsWellFormedDelete, IsWellFormedSelect}
use Rattle.row_model.specs.declared.statement.Constraint.{Constraint}
use Rattle.row_model.specs.declared.statement.Delete.{Delete}
use Rattle.row_model.specs.declared.statement.Insert.{Insert}
use Rattle.row_model.specs.declared.statement.Items.{Items}
use Rattle.row_model.specs.declared.statement.Items.TheVariants as items
use Rattle.row_model.specs.declared.statement.Select.{Select}
use Rattle.row_model.specs.declared.statement.Statement.{Statement}
use Rattle.row_model.specs.declared.statement.Test.{Test}
use Rattle.row_model.specs.declared.statement.Update.{Update}
use Rattle.vec0_columns.specs.ColumnGrammar.{columns_of, has_name, least, schema_of, text_fault}
use Rattle.vec0_columns.specs.declared.text.Arg.{Arg}
use Rattle.vec0_columns.specs.declared.text.Arg.TheVariants as args
use Rattle.sql_reader.specs.declared.given.Group.{Group}
use Rattle.sql_reader.specs.declared.given.GivenAssign.{GivenAssign}
use Rattle.sql_reader.specs.declared.given.GivenTest.{GivenTest}
use Rattle.sql_reader.specs.declared.given.GivenTest.TheVariants as tests
use Rattle.sql_reader.specs.declared.given.GivenTerm.{GivenTerm}
use Rattle.sql_reader.specs.declared.given.GivenSelect.{GivenSelect}
use Rattle.sql_reader.specs.declared.given.GivenStatement.{GivenStatement}
use Rattle.sql_reader.specs.declared.given.GivenStatement.TheVariants as statements
use Rattle.sql_reader.specs.inner.WellFormedGivens.{is_well_formed, are_names, are_well_formed_items, is_well_formed_group, is_well_formed_set, is_well_formed_term, is_well_formed_test, is_well_formed_value, is_well_formed_limit, is_well_formed_select}
use Rattle.sql_reader.specs.GivenStatements.{Check, row, checks_of, group_checks, item_count, items_in, terms_in}
use Rattle.sql_reader.specs.StatementReading.{PassesChecks, Each, Passes, Means, MeansAssign, MeansDelete, MeansGroup, MeansInsert, MeansSelect, MeansTerm, MeansTest, MeansUpdate, MeansValue, count_fault, rule_fault}

-- ---- schemas

none_first : (a b : Option ℕ) → least a b ≡ None → a ≡ None
none_first None b h = refl
none_first (Some a) None h = absurd cc
none_first (Some a) (Some b) h = elim (cases_Bool (nat_le a b)) [
  | inl e ↦ absurd (let no : Some a ≡ None = sym (cond-true (nat_le a b) (Some a) (Some b) e) ∙ h in cc)
  | inr e ↦ absurd (let no : Some b ≡ None = sym (cond-false (nat_le a b) (Some a) (Some b) e) ∙ h in cc)
]

columns_named : (parts : List Arg) → list_all has_name parts ≡ true → list_all (λ column. is_name column.name) (columns_of parts) ≡ true
columns_named [] h = refl
columns_named (args.Column name spelled ∷ parts) h = let both = and_parts (is_name name) (list_all has_name parts) h in and_from _ _ both.0 (columns_named parts both.1)
columns_named (args.ChunkSize n ∷ parts) h = columns_named parts h

valid : (parts : List Arg) → text_fault parts ≡ None → list_all has_name parts ≡ true → IsValidSchema (schema_of parts)
valid parts f h = record { rules = none_first (schema_fault (schema_of parts)) _ f; names = columns_named parts h }

-- ---- lists one to one

each_filled : {A B : Type 0} (R : A → B → Type 0) (xs : List A) (ys : List B) → Each R xs ys → is_filled xs ≡ true → is_filled ys ≡ true
each_filled R [] [] h f = f
each_filled R [] (y ∷ ys) h f = absurd h
each_filled R (x ∷ xs) [] h f = absurd h
each_filled R (x ∷ xs) (y ∷ ys) h f = refl

each_length : {A B : Type 0} (R : A → B → Type 0) (xs : List A) (ys : List B) → Each R xs ys → length ys ≡ length xs
each_length R [] [] h = refl
each_length R [] (y ∷ ys) h = absurd h
each_length R (x ∷ xs) [] h = absurd h
each_length R (x ∷ xs) (y ∷ ys) h = let same : length ys ≡ length xs = each_length R xs ys h.1 in omega (arith, same)

each_all : {A B : Type 0} (R : A → B → Type 0) (f : A → Bool) (g : B → Bool) → ((x : A) (y : B) → R x y → f x ≡ true → g y ≡ true) → (xs : List A) (ys : List B) → Each R xs ys → list_all f xs ≡ true → list_all g ys ≡ true
each_all R f g k [] [] h a = refl
each_all R f g k [] (y ∷ ys) h a = absurd h
each_all R f g k (x ∷ xs) [] h a = absurd h
each_all R f g k (x ∷ xs) (y ∷ ys) h a = let both = and_parts (f x) (list_all f xs) a in and_from _ _ (k x y h.0 both.0) (each_all R f g k xs ys h.1 both.1)

-- ---- terms and sets

test_whole : (params : List Value) (given : GivenTest) (test : Test) → MeansTest params given test → is_well_formed_test given ≡ true → is_whole_test test ≡ true
test_whole params (tests.Compare op given) test h f = ap (λ (t : Test). is_whole_test t) h.2
test_whole params (tests.Member members) test h f = ap (λ (t : Test). is_whole_test t) h.2 ∙ each_filled (MeansValue params) members h.0 h.1 (and_parts _ _ f).1
test_whole params (tests.Match given) test h f = ap (λ (t : Test). is_whole_test t) h.2

term_whole : (params : List Value) (given : GivenTerm) (term : Constraint) → MeansTerm params given term → is_well_formed_term given ≡ true → is_term term ≡ true
term_whole params given term h f =
    let both = and_parts (is_name given.column) (is_well_formed_test given.test) f in
    and_from _ _ (ap (λ (c : List ℕ). is_name c) h.0 ∙ both.0) (test_whole params given.test term.test h.1 both.1)

few_by : (n : ℕ) → (64 < n → ⊥) → nat_le n 64 ≡ true
few_by n h = elim (cases_lt 64 n) [ inl l ↦ absurd (h l) | inr l ↦ le-leb n 64 l ]

terms_whole : (params : List Value) (givens : List GivenTerm) (terms : List Constraint) → Each (MeansTerm params) givens terms → list_all is_well_formed_term givens ≡ true → (64 < length givens → ⊥) → are_terms terms ≡ true
terms_whole params givens terms h f n =
    and_from _ _ (each_all (MeansTerm params) is_well_formed_term is_term (term_whole params) givens terms h f)
    (ap (λ (k : ℕ). nat_le k 64) (each_length (MeansTerm params) givens terms h) ∙ few_by (length givens) n)

-- ---- counts

no_count : (i t : ℕ) → (if nat_lt 64 i then Some i else if nat_lt 64 t then Some t else None) ≡ None → (64 < i → ⊥) × (64 < t → ⊥)
no_count i t h = (
  (λ l. (let no : Some i ≡ None = sym (cond-true (nat_lt 64 i) (Some i) (if nat_lt 64 t then Some t else None) (lt-ltb 64 i l)) ∙ h in absurd cc)),
  (λ l. elim (cases_Bool (nat_lt 64 i)) [
    | inl e ↦ (let no : Some i ≡ None = sym (cond-true (nat_lt 64 i) (Some i) (if nat_lt 64 t then Some t else None) e) ∙ h in absurd cc)
    | inr e ↦ (let no : Some t ≡ None = sym (cond-false (nat_lt 64 i) (Some i) (if nat_lt 64 t then Some t else None) e ∙ cond-true (nat_lt 64 t) (Some t) None (lt-ltb 64 t l)) ∙ h in absurd cc)
  ]),
)

counts_told : (given : GivenStatement) → count_fault given ≡ None → (64 < items_in given → ⊥) × (64 < terms_in given → ⊥)
counts_told given h = no_count (items_in given) (terms_in given) h

-- ---- rows

fine_behind : (front behind : List Check) → AllByRecursion Passes (front ++ behind) → AllByRecursion Passes behind
fine_behind [] behind h = h
fine_behind (x ∷ front) behind h = fine_behind front behind h.1

fine_front : (front behind : List Check) → AllByRecursion Passes (front ++ behind) → AllByRecursion Passes front
fine_front [] behind h = tt
fine_front (x ∷ front) behind h = (h.0, fine_front front behind h.1)

rows_even : (params : List Value) (count : ℕ) (groups : List Group) (rows : List (List Value)) → Each (MeansGroup params) groups rows → AllByRecursion Passes (flat_map (group_checks count) groups) → list_all (λ values. length values == count) rows ≡ true
rows_even params count [] [] h f = refl
rows_even params count [] (r ∷ rows) h f = absurd h
rows_even params count (g ∷ groups) [] h f = absurd h
rows_even params count (g ∷ groups) (r ∷ rows) h f =
    let own = fine_front (group_checks count g) (flat_map (group_checks count) groups) f in
    let last = fine_behind (flat_map checks_of g.values) (row g.close (length g.values == count) ∷ []) own in
    and_from _ _ (ap (λ (n : ℕ). n == count) (each_length (MeansValue params) g.values r h.0) ∙ last.0)
    (rows_even params count groups rows h.1 (fine_behind (group_checks count g) (flat_map (group_checks count) groups) f))

-- ---- statements

items_whole : (i : Items) → are_well_formed_items i ≡ true → (64 < item_count i → ⊥) → are_items i ≡ true
items_whole items.All f n = refl
items_whole (items.Named names) f n = let both = and_parts (list_all is_name names) (is_filled names) f in and_from _ _ both.0 (and_from _ _ both.1 (few_by (length names) n))

select_whole : (params : List Value) (given : GivenSelect) (select : Select) → MeansSelect params given select → is_well_formed_select given ≡ true → (64 < item_count given.items → ⊥) → (64 < length given.where_terms → ⊥) → IsWellFormedSelect select
select_whole params given select h f i t =
    let named = and_parts (is_name given.table) (are_well_formed_items given.items && (list_all is_well_formed_term given.where_terms && is_well_formed_limit given.limit)) f in
    let listed = and_parts (are_well_formed_items given.items) (list_all is_well_formed_term given.where_terms && is_well_formed_limit given.limit) named.1 in
    let termed = and_parts (list_all is_well_formed_term given.where_terms) (is_well_formed_limit given.limit) listed.1 in
    record {
      table = ap (λ (n : List ℕ). is_name n) h.table ∙ named.0;
      items = ap (λ (z : Items). are_items z) h.items ∙ items_whole given.items listed.0 i;
      terms = terms_whole params given.where_terms select.where_terms h.where_terms termed.0 t;
    }

insert_whole : (params : List Value) (name : List ℕ) (names : List (List ℕ)) (groups : List Group) (insert : Insert) → MeansInsert params name names groups insert →
    is_well_formed (statements.Insert name names groups) ≡ true → AllByRecursion Passes (flat_map (group_checks (length names)) groups) → IsWellFormedInsert insert
insert_whole params name names groups insert h f passed =
    let named = and_parts (is_name name) (are_names names && (list_all is_well_formed_group groups && is_filled groups)) f in
    let listed = and_parts (are_names names) (list_all is_well_formed_group groups && is_filled groups) named.1 in
    let columns = and_parts (list_all is_name names) (is_filled names) listed.0 in
    let grouped = and_parts (list_all is_well_formed_group groups) (is_filled groups) listed.1 in
    record {
      table = ap (λ (n : List ℕ). is_name n) h.table ∙ named.0;
      names = ap (λ (ns : List (List ℕ)). list_all is_name ns) h.columns ∙ columns.0;
      some_name = ap (λ (ns : List (List ℕ)). is_filled ns) h.columns ∙ columns.1;
      some_row = each_filled (MeansGroup params) groups insert.rows h.rows grouped.1;
      one_value_each = subst (λ (ns : List (List ℕ)). list_all (λ values. length values == length ns) insert.rows ≡ true) (sym h.columns) (rows_even params (length names) groups insert.rows h.rows passed);
    }

update_whole : (params : List Value) (name : List ℕ) (sets : List GivenAssign) (terms : List GivenTerm) (update : Update) → MeansUpdate params name sets terms update →
    is_well_formed (statements.Update name sets terms) ≡ true → (64 < length terms → ⊥) → IsWellFormedUpdate update
update_whole params name sets terms update h f t =
    let named = and_parts (is_name name) (list_all is_well_formed_set sets && (is_filled sets && list_all is_well_formed_term terms)) f in
    let setting = and_parts (list_all is_well_formed_set sets) (is_filled sets && list_all is_well_formed_term terms) named.1 in
    let termed = and_parts (is_filled sets) (list_all is_well_formed_term terms) setting.1 in
    record {
      table = ap (λ (n : List ℕ). is_name n) h.table ∙ named.0;
      names = each_all (MeansAssign params) is_well_formed_set (λ set. is_name set.column) (λ x y m k. ap (λ (n : List ℕ). is_name n) m.0 ∙ (and_parts (is_name x.column) (is_well_formed_value x.value) k).0) sets update.sets h.sets setting.0;
      some_set = each_filled (MeansAssign params) sets update.sets h.sets termed.0;
      terms = terms_whole params terms update.where_terms h.where_terms termed.1 t;
    }

delete_whole : (params : List Value) (name : List ℕ) (terms : List GivenTerm) (delete : Delete) → MeansDelete params name terms delete → is_well_formed (statements.Delete name terms) ≡ true → (64 < length terms → ⊥) → IsWellFormedDelete delete
delete_whole params name terms delete h f t =
    let named = and_parts (is_name name) (list_all is_well_formed_term terms) f in
    record { table = ap (λ (n : List ℕ). is_name n) h.table ∙ named.0; terms = terms_whole params terms delete.where_terms h.where_terms named.1 t }

pub means_whole : (params : List Value) (given : GivenStatement) (s : Statement) → is_well_formed given ≡ true → PassesChecks given → count_fault given ≡ None → rule_fault given ≡ None → Means params given s → IsWellFormed s
means_whole params (statements.Create name columns) s f passed c r m =
    let both = and_parts (is_name name) (list_all has_name columns) f in
    subst (λ (z : Statement). IsWellFormed z) (sym m) (record { named = both.0; valid = valid columns r both.1 })
means_whole params (statements.Drop name) s f passed c r m = subst (λ (z : Statement). IsWellFormed z) (sym m) f
means_whole params (statements.Insert name names groups) s f passed c r m = subst (λ (z : Statement). IsWellFormed z) (sym m.2) (insert_whole params name names groups m.0 m.1 f passed)
means_whole params (statements.Update name sets terms) s f passed c r m = subst (λ (z : Statement). IsWellFormed z) (sym m.2) (update_whole params name sets terms m.0 m.1 f (counts_told (statements.Update name sets terms) c).1)
means_whole params (statements.Delete name terms) s f passed c r m = subst (λ (z : Statement). IsWellFormed z) (sym m.2) (delete_whole params name terms m.0 m.1 f (counts_told (statements.Delete name terms) c).1)
means_whole params (statements.Select select) s f passed c r m =
    let counts = counts_told (statements.Select select) c in subst (λ (z : Statement). IsWellFormed z) (sym m.2) (select_whole params select m.0 m.1 f counts.0 counts.1)
means_whole params (statements.Explain select) s f passed c r m =
    let counts = counts_told (statements.Explain select) c in subst (λ (z : Statement). IsWellFormed z) (sym m.2) (select_whole params select m.0 m.1 f counts.0 counts.1)
means_whole params (statements.Begin immediate) s f passed c r m = subst (λ (z : Statement). IsWellFormed z) (sym m) tt
means_whole params statements.Commit s f passed c r m = subst (λ (z : Statement). IsWellFormed z) (sym m) tt
means_whole params statements.Rollback s f passed c r m = subst (λ (z : Statement). IsWellFormed z) (sym m) tt
means_whole params (statements.RollbackTo name) s f passed c r m = subst (λ (z : Statement). IsWellFormed z) (sym m) f
means_whole params (statements.Savepoint name) s f passed c r m = subst (λ (z : Statement). IsWellFormed z) (sym m) f
means_whole params (statements.Release name) s f passed c r m = subst (λ (z : Statement). IsWellFormed z) (sym m) f
