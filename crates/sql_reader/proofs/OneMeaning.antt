-- What is given means one thing.
use Rattle.std.proofs.Common.{◌≡◌, ℕ, List, [], ◌∷◌, Option, Some, None, refl, sym, ◌∙◌, ap}
use Rattle.vec_base.specs.declared.value.Value.{Value}
use Rattle.vec_base.specs.declared.value.Value.TheVariants as values
use Rattle.vec_literal.specs.Int8.{SpellsInt8}
use Rattle.vec_literal.proofs.Int8Laws.{one_vector}
use Rattle.row_model.specs.declared.statement.Assign.{Assign}
use Rattle.row_model.specs.declared.statement.Constraint.{Constraint}
use Rattle.row_model.specs.declared.statement.Delete.{Delete}
use Rattle.row_model.specs.declared.statement.Insert.{Insert}
use Rattle.row_model.specs.declared.statement.Select.{Select}
use Rattle.row_model.specs.declared.statement.Statement.{Statement}
use Rattle.row_model.specs.declared.statement.Statement.TheVariants as read
use Rattle.row_model.specs.declared.statement.Test.{Test}
use Rattle.row_model.specs.declared.statement.Test.TheVariants as asked
use Rattle.row_model.specs.declared.statement.Update.{Update}
use Rattle.sql_reader.specs.declared.given.Given.TheVariants as givens
use Rattle.sql_reader.specs.declared.given.Group.{Group}
use Rattle.sql_reader.specs.declared.given.GivenAssign.{GivenAssign}
use Rattle.sql_reader.specs.declared.given.GivenTest.TheVariants as tests
use Rattle.sql_reader.specs.declared.given.GivenTerm.{GivenTerm}
use Rattle.sql_reader.specs.declared.given.GivenSelect.{GivenSelect}
use Rattle.sql_reader.specs.declared.given.GivenStatement.{GivenStatement}
use Rattle.sql_reader.specs.declared.given.GivenStatement.TheVariants as statements
use Rattle.sql_reader.specs.StatementReading.{Each, EachOption, GivesInt8, GivesBits, MeansValue, MeansTest, MeansTerm, MeansAssign, MeansGroup, MeansSelect, MeansInsert, MeansUpdate, MeansDelete, Means, parameter}

-- each part means one thing
abbrev One : {A B : Type 0} → (A → B → Type 0) → Type 0
One {A} {B} R = (x : A) (y z : B) → R x y → R x z → y ≡ z

each_one : {A B : Type 0} (R : A → B → Type 0) → One R → (xs : List A) (ys zs : List B) → Each R xs ys → Each R xs zs → ys ≡ zs
each_one R o [] [] [] h k = refl
each_one R o [] [] (z ∷ zs) h k = absurd k
each_one R o [] (y ∷ ys) zs h k = absurd h
each_one R o (x ∷ xs) [] zs h k = absurd h
each_one R o (x ∷ xs) (y ∷ ys) [] h k = absurd k
each_one R o (x ∷ xs) (y ∷ ys) (z ∷ zs) h k = ap (λ a. a ∷ ys) (o x y z h.0 k.0) ∙ ap (λ bs. z ∷ bs) (each_one R o xs ys zs h.1 k.1)

option_one : {A B : Type 0} (R : A → B → Type 0) → One R → (x : Option A) (y z : Option B) → EachOption R x y → EachOption R x z → y ≡ z
option_one R o None None None h k = refl
option_one R o None None (Some z) h k = absurd k
option_one R o None (Some y) z h k = absurd h
option_one R o (Some x) None z h k = absurd h
option_one R o (Some x) (Some y) None h k = absurd k
option_one R o (Some x) (Some y) (Some z) h k = ap (λ a. Some a) (o x y z h k)

spelled_one : (text : List ℕ) (v w : Value) → (vector : List ℕ) × SpellsInt8 text vector × (v ≡ values.Int8 vector) → (vector : List ℕ) × SpellsInt8 text vector × (w ≡ values.Int8 vector) → v ≡ w
spelled_one text v w h k = h.2 ∙ (ap (λ (z : List ℕ). values.Int8 z) (one_vector text h.0 k.0 h.1 k.1) ∙ sym k.2)

int8_one : (x v w : Value) → GivesInt8 x v → GivesInt8 x w → v ≡ w
int8_one (values.Text text) v w h k = spelled_one text v w h k
int8_one (values.Blob bytes) v w h k = h ∙ sym k
int8_one (values.Int8 bytes) v w h k = h ∙ sym k
int8_one values.Null v w h k = absurd h
int8_one (values.Int n) v w h k = absurd h
int8_one (values.Bits bytes) v w h k = absurd h

bits_one : (x v w : Value) → GivesBits x v → GivesBits x w → v ≡ w
bits_one (values.Blob bytes) v w h k = h ∙ sym k
bits_one (values.Bits bytes) v w h k = h ∙ sym k
bits_one values.Null v w h k = absurd h
bits_one (values.Int n) v w h k = absurd h
bits_one (values.Text text) v w h k = absurd h
bits_one (values.Int8 bytes) v w h k = absurd h

value_one : (params : List Value) → One (MeansValue params)
value_one params (givens.Value x) v w h k = h ∙ sym k
value_one params (givens.Parameter n) v w h k = h ∙ sym k
value_one params (givens.Int8Text place text) v w h k = spelled_one text v w h k
value_one params (givens.Int8Parameter n) v w h k = int8_one (parameter params n) v w h k
value_one params (givens.BitsParameter n) v w h k = bits_one (parameter params n) v w h k

test_one : (params : List Value) → One (MeansTest params)
test_one params (tests.Compare op given) s t h k = h.2 ∙ (ap (λ (v : Value). asked.Compare op v) (value_one params given h.0 k.0 h.1 k.1) ∙ sym k.2)
test_one params (tests.Member members) s t h k = h.2 ∙ (ap (λ (vs : List Value). asked.Member vs) (each_one (MeansValue params) (value_one params) members h.0 k.0 h.1 k.1) ∙ sym k.2)
test_one params (tests.Match given) s t h k = h.2 ∙ (ap (λ (v : Value). asked.Match v) (value_one params given h.0 k.0 h.1 k.1) ∙ sym k.2)

term_one : (params : List Value) → One (MeansTerm params)
term_one params given s t h k =
    ap (λ (c : List ℕ). record { column = c; test = s.test }) (h.0 ∙ sym k.0) ∙ ap (λ (x : Test). record { column = t.column; test = x }) (test_one params given.test s.test t.test h.1 k.1)

set_one : (params : List Value) → One (MeansAssign params)
set_one params given s t h k =
    ap (λ (c : List ℕ). record { column = c; value = s.value }) (h.0 ∙ sym k.0) ∙ ap (λ (x : Value). record { column = t.column; value = x }) (value_one params given.value s.value t.value h.1 k.1)

group_one : (params : List Value) → One (MeansGroup params)
group_one params group s t h k = each_one (MeansValue params) (value_one params) group.values s t h k

select_one : (params : List Value) (given : GivenSelect) (s t : Select) → MeansSelect params given s → MeansSelect params given t → s ≡ t
select_one params given s t h k =
    rw (
      h.table ∙ sym k.table,
      h.items ∙ sym k.items,
      h.order ∙ sym k.order,
      each_one (MeansTerm params) (term_one params) given.where_terms s.where_terms t.where_terms h.where_terms k.where_terms,
      option_one (MeansValue params) (value_one params) given.limit s.limit t.limit h.limit k.limit,
    ) refl

insert_one : (params : List Value) (name : List ℕ) (names : List (List ℕ)) (groups : List Group) (s t : Insert) → MeansInsert params name names groups s → MeansInsert params name names groups t → s ≡ t
insert_one params name names groups s t h k =
    ap (λ (x : List ℕ). record { table = x; columns = s.columns; rows = s.rows }) (h.table ∙ sym k.table) ∙
    (ap (λ (x : List (List ℕ)). record { table = t.table; columns = x; rows = s.rows }) (h.columns ∙ sym k.columns) ∙
    ap (λ (x : List (List Value)). record { table = t.table; columns = t.columns; rows = x }) (each_one (MeansGroup params) (group_one params) groups s.rows t.rows h.rows k.rows))

update_one : (params : List Value) (name : List ℕ) (sets : List GivenAssign) (terms : List GivenTerm) (s t : Update) → MeansUpdate params name sets terms s → MeansUpdate params name sets terms t → s ≡ t
update_one params name sets terms s t h k =
    ap (λ (x : List ℕ). record { table = x; sets = s.sets; where_terms = s.where_terms }) (h.table ∙ sym k.table) ∙
    (ap (λ (x : List Assign). record { table = t.table; sets = x; where_terms = s.where_terms }) (each_one (MeansAssign params) (set_one params) sets s.sets t.sets h.sets k.sets) ∙
    ap (λ (x : List Constraint). record { table = t.table; sets = t.sets; where_terms = x }) (each_one (MeansTerm params) (term_one params) terms s.where_terms t.where_terms h.where_terms k.where_terms))

delete_one : (params : List Value) (name : List ℕ) (terms : List GivenTerm) (s t : Delete) → MeansDelete params name terms s → MeansDelete params name terms t → s ≡ t
delete_one params name terms s t h k =
    ap (λ (x : List ℕ). record { table = x; where_terms = s.where_terms }) (h.table ∙ sym k.table) ∙
    ap (λ (x : List Constraint). record { table = t.table; where_terms = x }) (each_one (MeansTerm params) (term_one params) terms s.where_terms t.where_terms h.where_terms k.where_terms)

pub one_meaning : (params : List Value) (given : GivenStatement) (s t : Statement) → Means params given s → Means params given t → s ≡ t
one_meaning params (statements.Create name columns) s t h k = h ∙ sym k
one_meaning params (statements.Drop name) s t h k = h ∙ sym k
one_meaning params (statements.Insert name names groups) s t h k = h.2 ∙ (ap (λ (x : Insert). read.Insert x) (insert_one params name names groups h.0 k.0 h.1 k.1) ∙ sym k.2)
one_meaning params (statements.Update name sets terms) s t h k = h.2 ∙ (ap (λ (x : Update). read.Update x) (update_one params name sets terms h.0 k.0 h.1 k.1) ∙ sym k.2)
one_meaning params (statements.Delete name terms) s t h k = h.2 ∙ (ap (λ (x : Delete). read.Delete x) (delete_one params name terms h.0 k.0 h.1 k.1) ∙ sym k.2)
one_meaning params (statements.Select select) s t h k = h.2 ∙ (ap (λ (x : Select). read.Select x) (select_one params select h.0 k.0 h.1 k.1) ∙ sym k.2)
one_meaning params (statements.Explain select) s t h k = h.2 ∙ (ap (λ (x : Select). read.Explain x) (select_one params select h.0 k.0 h.1 k.1) ∙ sym k.2)
one_meaning params (statements.Begin immediate) s t h k = h ∙ sym k
one_meaning params statements.Commit s t h k = h ∙ sym k
one_meaning params statements.Rollback s t h k = h ∙ sym k
one_meaning params (statements.RollbackTo name) s t h k = h ∙ sym k
one_meaning params (statements.Savepoint name) s t h k = h ∙ sym k
one_meaning params (statements.Release name) s t h k = h ∙ sym k
