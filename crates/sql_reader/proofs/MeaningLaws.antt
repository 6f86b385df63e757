-- What statements mean.
use Rattle.std.proofs.Common.{◌≡◌, ℕ, ◌≤◌, Bool, true, inl, inr, List, [], ◌∷◌, ◌++◌, Option, Some, None, Result, Ok, Err, refl, sym, ◌∙◌, ap, subst}
use Rattle.std.specs.List.{AllByRecursion, flat_map, list_all}
use Rattle.std.proofs.lemmas.Bool.{and_parts, leb-true}
use Rattle.std.proofs.lemmas.Grind.{flat_map-append}
use Rattle.std.proofs.lemmas.List.Folds.{flat_map-map}
use Rattle.vec_base.specs.Words.{is_name}
use Rattle.vec_base.specs.declared.refusal.Refusal.{Refusal}
use Rattle.vec_base.specs.declared.refusal.Refusal.TheVariants as refusals
use Rattle.vec_base.specs.declared.value.Value.{Value}
use Rattle.row_model.specs.declared.schema.Schema.{Schema}
use Rattle.row_model.specs.declared.statement.Statement.TheVariants as read
use Rattle.vec_base.specs.Answers.{Gives}
use Rattle.vec0_columns.specs.ColumnGrammar.{has_name, text_fault, schema_of}
use Rattle.vec0_columns.specs.ColumnReading.{answer_by, answer_of}
use Rattle.vec0_columns.specs.declared.text.Arg.{Arg}
use Rattle.sql_reader.specs.declared.flaw.Flaw.{Flaw}
use Rattle.sql_reader.specs.declared.flaw.Flaw.TheVariants as flaws
use Rattle.sql_reader.specs.declared.given.Given.{Given}
use Rattle.sql_reader.specs.declared.given.Given.TheVariants as givens
use Rattle.sql_reader.specs.declared.given.GivenAssign.{GivenAssign}
use Rattle.sql_reader.specs.declared.given.GivenTerm.{GivenTerm}
use Rattle.sql_reader.specs.declared.given.GivenStatement.{GivenStatement}
use Rattle.sql_reader.specs.declared.given.GivenStatement.TheVariants as statements
use Rattle.sql_reader.specs.declared.given.GivenTest.{GivenTest}
use Rattle.sql_reader.specs.declared.given.GivenTest.TheVariants as tests
use Rattle.sql_reader.specs.declared.given.GivenSelect.{GivenSelect}
use Rattle.sql_reader.specs.inner.WellFormedGivens.{is_well_formed, is_well_formed_value, are_well_formed_values, is_well_formed_group, is_well_formed_limit, is_well_formed_test, is_well_formed_term, is_well_formed_set, is_well_formed_select}
use Rattle.sql_reader.proofs.PartLaws.{all_append}
use Rattle.sql_reader.proofs.ParameterLaws.{small_greatest}
use Rattle.sql_reader.specs.GivenStatements.{Check, checks, checks_of, Use, uses, uses_of, in_test, in_terms, in_sets, in_limit}
use Rattle.sql_reader.specs.inner.PartMeanings.{IsPartMeaning, IsStatementMeaning, ordered_checks, ordered_uses, test_uses, term_uses, set_uses, limit_uses}
use Rattle.sql_reader.specs.StatementReading.{IsFirstFailing, greatest}

-- ---- a flaw of a part is one of the statement

pub made_flaw : {Y : Type 0} (params : List Value) (given : GivenStatement) (all : List Check) (Taken : Type 0) (M : Y → Type 0) (e : Flaw) → all ≡ ordered_checks given → IsPartMeaning all Taken M (Err e) → IsStatementMeaning params given (Err e)
made_flaw params given all Taken M flaws.Memory e m = tt
made_flaw params given all Taken M (flaws.Place place) e m = subst (λ z. IsFirstFailing z place) e m
made_flaw params given all Taken M (flaws.Rule rule) e m = absurd m

pub well_formed_columns : (given : GivenStatement) (name : List ℕ) (columns spelled : List Arg) → given ≡ statements.Create name columns → spelled ≡ columns → is_well_formed given ≡ true → list_all has_name spelled ≡ true
well_formed_columns given name columns spelled e k h = ap (λ (z : List Arg). list_all has_name z) k ∙ (and_parts (is_name name) (list_all has_name columns) (sym (ap (λ (g : GivenStatement). is_well_formed g) e) ∙ h)).1

-- ---- the order of a text is the order in which the parts are made

flat_flat : {X A B : Type 0} (f : A → List B) (g : X → List A) (xs : List X) → flat_map f (flat_map g xs) ≡ flat_map (λ x. flat_map f (g x)) xs
flat_flat f g [] = refl
flat_flat f g (x ∷ xs) = flat_map-append f (g x) (flat_map g xs) ∙ ap (λ z. flat_map f (g x) ++ z) (flat_flat f g xs)

two_parts : {A : Type 0} (f : Given → List A) (terms : List GivenTerm) (behind : List Given) → flat_map f (in_terms terms ++ behind) ≡ flat_map (λ term. flat_map f (in_test term.test)) terms ++ flat_map f behind
two_parts f terms behind = flat_map-append f (in_terms terms) behind ∙ ap (λ z. z ++ flat_map f behind) (flat_flat f (λ term. in_test term.test) terms)

set_parts : {A : Type 0} (f : Given → List A) (sets : List GivenAssign) (terms : List GivenTerm) →
    flat_map f (in_sets sets ++ in_terms terms) ≡ flat_map (λ set. f set.value) sets ++ flat_map (λ term. flat_map f (in_test term.test)) terms
set_parts f sets terms =
    flat_map-append f (in_sets sets) (in_terms terms) ∙
    (ap (λ z. z ++ flat_map f (in_terms terms)) (flat_map-map f (λ set. set.value) sets) ∙ ap (λ z. flat_map (λ set. f set.value) sets ++ z) (flat_flat f (λ term. in_test term.test) terms))

pub uses_ordered : (given : GivenStatement) → uses given ≡ ordered_uses given
uses_ordered (statements.Create name columns) = refl
uses_ordered (statements.Drop name) = refl
uses_ordered (statements.Insert name names groups) = flat_flat uses_of (λ group. group.values) groups
uses_ordered (statements.Update name sets terms) = set_parts uses_of sets terms
uses_ordered (statements.Delete name terms) = flat_flat uses_of (λ term. in_test term.test) terms
uses_ordered (statements.Select select) = two_parts uses_of select.where_terms (in_limit select.limit)
uses_ordered (statements.Explain select) = two_parts uses_of select.where_terms (in_limit select.limit)
uses_ordered (statements.Begin immediate) = refl
uses_ordered statements.Commit = refl
uses_ordered statements.Rollback = refl
uses_ordered (statements.RollbackTo name) = refl
uses_ordered (statements.Savepoint name) = refl
uses_ordered (statements.Release name) = refl

pub checks_ordered : (given : GivenStatement) → checks given ≡ ordered_checks given
checks_ordered (statements.Create name columns) = refl
checks_ordered (statements.Drop name) = refl
checks_ordered (statements.Insert name names groups) = refl
checks_ordered (statements.Update name sets terms) = set_parts checks_of sets terms
checks_ordered (statements.Delete name terms) = flat_flat checks_of (λ term. in_test term.test) terms
checks_ordered (statements.Select select) = two_parts checks_of select.where_terms (in_limit select.limit)
checks_ordered (statements.Explain select) = two_parts checks_of select.where_terms (in_limit select.limit)
checks_ordered (statements.Begin immediate) = refl
checks_ordered statements.Commit = refl
checks_ordered statements.Rollback = refl
checks_ordered (statements.RollbackTo name) = refl
checks_ordered (statements.Savepoint name) = refl
checks_ordered (statements.Release name) = refl

-- ---- schemas

answer_ok : (o : Option ℕ) (schema s : Schema) → (let r : Result Schema Refusal = Ok s in r) ≡ answer_by o schema → (o ≡ None) × (s ≡ schema)
answer_ok None schema s h = (refl, cc)
answer_ok (Some rule) schema s h = absurd cc

answer_rule : (o : Option ℕ) (schema : Schema) (rule : ℕ) → (let r : Result Schema Refusal = Err (refusals.BadSchema rule) in r) ≡ answer_by o schema → o ≡ Some rule
answer_rule None schema rule h = absurd cc
answer_rule (Some other) schema rule h = let same : other ≡ rule = cc in ap (λ (n : ℕ). Some n) same

pub created : (params : List Value) (name copy : List ℕ) (columns : List Arg) (s : Schema) → copy ≡ name → Gives refusals.WantOfMemory (Ok s) (answer_of columns) → IsStatementMeaning params (statements.Create name columns) (Ok (read.Create copy s))
created params name copy columns s e (inl h) =
    let both = answer_ok (text_fault columns) (schema_of columns) s h in
    (tt, both.0, λ taken. ap (λ (z : List ℕ). read.Create z s) e ∙ ap (λ (z : Schema). read.Create name z) both.1)
created params name copy columns s e (inr h) = absurd cc

pub rule_broken : (params : List Value) (name : List ℕ) (columns : List Arg) (rule : ℕ) → Gives {A = Schema} refusals.WantOfMemory (Err (refusals.BadSchema rule)) (answer_of columns) → IsStatementMeaning params (statements.Create name columns) (Err (flaws.Rule rule))
rule_broken params name columns rule (inl h) = (tt, answer_rule (text_fault columns) (schema_of columns) rule h)
rule_broken params name columns rule (inr h) = absurd cc

-- ---- no parameter has a number above 999

abbrev AreSmall : List Use → Type 0
AreSmall all = AllByRecursion (λ used. used.number ≤ 999) all

small_flat : {X : Type 0} (us : X → List Use) (test : X → Bool) → ((x : X) → test x ≡ true → AreSmall (us x)) → (xs : List X) → list_all test xs ≡ true → AreSmall (flat_map us xs)
small_flat us test f [] h = tt
small_flat us test f (x ∷ xs) h = all_append (λ used. used.number ≤ 999) (us x) (flat_map us xs) (f x (and_parts _ _ h).0) (small_flat us test f xs (and_parts _ _ h).1)

small_value : (given : Given) → is_well_formed_value given ≡ true → AreSmall (uses_of given)
small_value (givens.Value v) h = tt
small_value (givens.Parameter n) h = (leb-true n 999 h, tt)
small_value (givens.Int8Text place text) h = tt
small_value (givens.Int8Parameter n) h = (leb-true n 999 h, tt)
small_value (givens.BitsParameter n) h = (leb-true n 999 h, tt)

small_values : (values : List Given) → are_well_formed_values values ≡ true → AreSmall (flat_map uses_of values)
small_values values h = small_flat uses_of is_well_formed_value small_value values (and_parts _ _ h).0

small_one : (given : Given) → is_well_formed_value given ≡ true → AreSmall (uses_of given ++ [])
small_one given h = all_append (λ used. used.number ≤ 999) (uses_of given) [] (small_value given h) tt

small_test : (test : GivenTest) → is_well_formed_test test ≡ true → AreSmall (test_uses test)
small_test (tests.Compare op given) h = small_one given h
small_test (tests.Member members) h = small_values members h
small_test (tests.Match given) h = small_one given h

small_terms : (terms : List GivenTerm) → list_all is_well_formed_term terms ≡ true → AreSmall (term_uses terms)
small_terms terms h = small_flat (λ term. test_uses term.test) is_well_formed_term (λ term k. small_test term.test (and_parts _ _ k).1) terms h

small_limit : (limit : Option Given) → is_well_formed_limit limit ≡ true → AreSmall (limit_uses limit)
small_limit None h = tt
small_limit (Some given) h = small_one given h

small_select : (select : GivenSelect) → is_well_formed_select select ≡ true → AreSmall (term_uses select.where_terms ++ limit_uses select.limit)
small_select select h =
    let parts = and_parts _ _ (and_parts _ _ (and_parts _ _ h).1).1 in
    all_append (λ used. used.number ≤ 999) (term_uses select.where_terms) (limit_uses select.limit) (small_terms select.where_terms parts.0) (small_limit select.limit parts.1)

pub small_statement : (given : GivenStatement) → is_well_formed given ≡ true → AreSmall (ordered_uses given)
small_statement (statements.Create name columns) h = tt
small_statement (statements.Drop name) h = tt
small_statement (statements.Insert name names groups) h = small_flat (λ group. flat_map uses_of group.values) is_well_formed_group (λ group k. small_values group.values k) groups (and_parts _ _ (and_parts _ _ (and_parts _ _ h).1).1).0
small_statement (statements.Update name sets terms) h =
    let parts = and_parts _ _ (and_parts _ _ h).1 in
    all_append (λ used. used.number ≤ 999) (set_uses sets) (term_uses terms)
    (small_flat (λ set. uses_of set.value) is_well_formed_set (λ set k. small_value set.value (and_parts _ _ k).1) sets parts.0) (small_terms terms (and_parts _ _ parts.1).1)
small_statement (statements.Delete name terms) h = small_terms terms (and_parts _ _ h).1
small_statement (statements.Select select) h = small_select select h
small_statement (statements.Explain select) h = small_select select h
small_statement (statements.Begin immediate) h = tt
small_statement statements.Commit h = tt
small_statement statements.Rollback h = tt
small_statement (statements.RollbackTo name) h = tt
small_statement (statements.Savepoint name) h = tt
small_statement (statements.Release name) h = tt

pub formed_small : (given : GivenStatement) → is_well_formed given ≡ true → greatest (ordered_uses given) ≤ 999
formed_small given h = small_greatest (ordered_uses given) (small_statement given h)
