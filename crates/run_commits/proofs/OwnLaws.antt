-- The machine itself never answers a fault of the store.
use Rattle.std.proofs.Common.{◌≡◌, ℕ, ℤ, ◌+◌, ◌==◌, ◌&&◌, if◌then◌else◌, Bool, true, false, not, List, [], ◌∷◌, ◌++◌, length, map, Option, Some, None, Ok, Err, refl, fold, nat_lt}
use Rattle.std.specs.List.{flat_map}
use Rattle.std.specs.declared.result.Result.{Result}
use Rattle.vec_base.specs.declared.refusal.Refusal.{Refusal}
use Rattle.vec_base.specs.declared.value.Value.{Value}
use Rattle.vec_base.specs.declared.value.Value.TheVariants.{Null, Int, Text, Blob, Int8, Bits}
use Rattle.vec_base.specs.Refusals.{number_of}
use Rattle.row_model.specs.declared.row.Catalog.{Catalog}
use Rattle.row_model.specs.declared.row.Named.{Named}
use Rattle.row_model.specs.declared.row.Row.{Row}
use Rattle.row_model.specs.declared.row.Table.{Table}
use Rattle.row_model.specs.declared.schema.Column.{Column}
use Rattle.row_model.specs.declared.schema.Place.{Place}
use Rattle.row_model.specs.declared.schema.Place.TheVariants.{Unknown, Rowid, Declared, Count, Distance}
use Rattle.row_model.specs.declared.schema.Schema.{Schema}
use Rattle.row_model.specs.declared.state.CursorRows.{CursorRows}
use Rattle.row_model.specs.declared.state.Mark.{Mark}
use Rattle.row_model.specs.declared.state.Phase.{Phase}
use Rattle.row_model.specs.declared.state.Phase.TheVariants.{Idle, Reading, Writing}
use Rattle.row_model.specs.declared.state.Session.{Session}
use Rattle.row_model.specs.declared.state.State.{State}
use Rattle.row_model.specs.declared.request.Request.{Request}
use Rattle.row_model.specs.declared.request.Request.TheVariants.{OpenSession, CloseSession, Execute, OpenCursor, Fetch, CloseCursor}
use Rattle.row_model.specs.declared.request.Reply.{Reply}
use Rattle.row_model.specs.declared.request.Reply.TheVariants.{Done, Rows, Refused}
use Rattle.vec_base.specs.declared.refusal.Refusal.TheVariants.{TxnState}
use Rattle.row_model.specs.declared.statement.Assign.{Assign}
use Rattle.row_model.specs.declared.statement.Constraint.{Constraint}
use Rattle.row_model.specs.declared.statement.Delete.{Delete as DeleteRows}
use Rattle.row_model.specs.declared.statement.Insert.{Insert as InsertRows}
use Rattle.row_model.specs.declared.statement.Items.{Items}
use Rattle.row_model.specs.declared.statement.Items.TheVariants.{All, Named as NamedItems}
use Rattle.row_model.specs.declared.statement.Select.{Select as SelectRows}
use Rattle.row_model.specs.declared.statement.Statement.{Statement}
use Rattle.row_model.specs.declared.statement.Statement.TheVariants.{Create, Drop, Insert, Update, Delete, Select, Explain, Begin, Commit as CommitWork, Rollback, RollbackTo, Savepoint, Release}
use Rattle.row_model.specs.declared.statement.Update.{Update as UpdateRows}
use Rattle.row_model.specs.Change.{Elsewhere, given_rowid, updated, rows_vector_bytes, rows_side_bytes, elsewhere, taken_rowid, duplicate, spent, long_values, row_refusals, group_refusals, with_new_row, new_row, or_grown, grown, update_refusals, other_tables}
use Rattle.row_model.specs.Check.{next, list_faults, row_faults, left_out_faults, insert_faults, range_faults, test_values, terms_faults, select_forms, hidden_forms, change_forms, sets_faults, update_faults, delete_faults, names_faults, items_faults, limit_range_faults, limit_faults, select_faults, check_select}
use Rattle.row_model.specs.Answer.{answer}
use Rattle.row_model.specs.ColumnNames.{place_of}
use Rattle.run_commits.specs.Commits.{is_fault}
use Rattle.row_model.specs.Limits.{over, over_tables}
use Rattle.row_model.specs.RefusalOrder.{when, or_less, least, first, listed}
use Rattle.row_model.specs.Machine.{seen, unless, where_open, session_of, before_mark, newest_mark, cursor_of, in_session, is_idle}
use Rattle.row_model.specs.Step.{busy, busy_beside, committed, commits_spent, rolled_to, released, old_snapshot, spent_at_once, wrote, writes, if_none, created, dropped, inserted, inserted_catalog, grown_catalog, updates, deletes, selected, explained, too_many, cursor_opened, fetched, cursor_closed, found, executed, answer_of, kept_catalog, with_tables, updated_catalog}
use Rattle.row_model.specs.Values.{met, shape_faults, value_faults, null_faults, given_faults}

abbrev IsOwn : Refusal → Type 0
IsOwn refusal = is_fault (Refused refusal) ≡ false

abbrev AllOwn : List Refusal → Type 0
AllOwn [] = Unit {0}
AllOwn (r ∷ rs) = IsOwn r × AllOwn rs

-- none of the refusals is a fault of the store
record AreOwn (refusals : List Refusal) : Type 0 where
  all : AllOwn refusals

abbrev OwnOption : Option Refusal → Type 0
OwnOption None = Unit {0}
OwnOption (Some r) = IsOwn r

own-nil : AreOwn []
own-nil = record { all = tt }

own-when : (test : Bool) (r : Refusal) → IsOwn r → AreOwn (when test r)
own-when true r h = record { all = (h, tt) }
own-when false r h = record { all = tt }

all-append : (xs ys : List Refusal) → AllOwn xs → AllOwn ys → AllOwn (xs ++ ys)
all-append [] ys a b = b
all-append (x ∷ xs) ys a b = (a.0, all-append xs ys a.1 b)

own-append : {xs ys : List Refusal} → AreOwn xs → AreOwn ys → AreOwn (xs ++ ys)
own-append {xs} {ys} a b = record { all = all-append xs ys a.all b.all }

own-if : (test : Bool) {xs ys : List Refusal} → AreOwn xs → AreOwn ys → AreOwn (if test then xs else ys)
own-if true a b = a
own-if false a b = b

own-flat_map : {A : Type 0} (f : A → List Refusal) → ((x : A) → AreOwn (f x)) → (xs : List A) → AreOwn (flat_map f xs)
own-flat_map f h [] = own-nil
own-flat_map f h (x ∷ xs) = own-append (h x) (own-flat_map f h xs)

own_less : (best : Option Refusal) (r : Refusal) → OwnOption best → IsOwn r → OwnOption (or_less best r)
own_less None r a b = b
own_less (Some best) r a b = elim (nat_lt (number_of r) (number_of best)) as (λ t. OwnOption (if t then Some r else Some best)) [ true ↦ b | false ↦ a ]

own_fold : (best : Option Refusal) (rs : List Refusal) → OwnOption best → AllOwn rs → OwnOption (fold or_less best rs)
own_fold best [] a b = a
own_fold best (r ∷ rs) a b = own_fold (or_less best r) rs (own_less best r a b.0) b.1

own_least : {rs : List Refusal} → AreOwn rs → OwnOption (least rs)
own_least {rs} a = own_fold None rs tt a.all

own_first : (rs : List Refusal) → AreOwn rs → OwnOption (first rs)
own_first [] a = tt
own_first (r ∷ rs) a = a.all.0

own_listed : (o : Option Refusal) → OwnOption o → AreOwn (listed o)
own_listed None a = own-nil
own_listed (Some r) a = record { all = (a, tt) }

-- ---- the checks

own_shape : (place : Place) (value : Value) → AreOwn (shape_faults place value)
own_shape Unknown value = own-nil
own_shape Rowid value = own-nil
own_shape (Declared number kind) value = own-when _ _ refl
own_shape Count value = own-nil
own_shape Distance value = own-nil

own_value : (place : Place) (value : Value) → AreOwn (value_faults place value)
own_value place value = own-append (own-when _ _ refl) (own_shape place value)

own_null : (place : Place) → AreOwn (null_faults place)
own_null Unknown = own-nil
own_null Rowid = own-nil
own_null (Declared number kind) = own-when _ _ refl
own_null Count = own-nil
own_null Distance = own-nil

own_given : (place : Place) (value : Value) → AreOwn (given_faults place value)
own_given place value = own-if _ (own_null place) (own_value place value)

own_list : (columns : List Column) (seen : List Place) (index : ℕ) (places : List Place) → AreOwn (list_faults columns seen index places)
own_list columns seen index [] = own-nil
own_list columns seen index (place ∷ places) =
    own-append (own-append (own-when _ _ refl) (own-when _ _ refl)) (own_list columns (seen ++ place ∷ []) (next index) places)

own_row : (places : List Place) (values : List Value) → AreOwn (row_faults places values)
own_row [] values = own-nil
own_row (place ∷ places) [] = own-nil
own_row (place ∷ places) (value ∷ values) = own-append (own_given place value) (own_row places values)

own_left_out : (places : List Place) (number : ℕ) (columns : List Column) → AreOwn (left_out_faults places number columns)
own_left_out places number [] = own-nil
own_left_out places number (column ∷ columns) = own-append (own-when _ _ refl) (own_left_out places (number + 1) columns)

own_insert : (columns : List Column) (insert : InsertRows) → AreOwn (insert_faults columns insert)
own_insert columns insert =
    own-append (own_list columns [] 1 (map (place_of columns) insert.columns))
    (own-flat_map _ (λ values. own-append (own_row (map (place_of columns) insert.columns) values) (own_left_out (map (place_of columns) insert.columns) 1 columns)) insert.rows)

own_range : (value : Value) → AreOwn (range_faults value)
own_range (Int n) = own-when _ _ refl
own_range Null = own-nil
own_range (Text t) = own-nil
own_range (Blob b) = own-nil
own_range (Int8 b) = own-nil
own_range (Bits b) = own-nil

own_terms : (columns : List Column) (index : ℕ) (terms : List Constraint) → AreOwn (terms_faults columns index terms)
own_terms columns index [] = own-nil
own_terms columns index (term ∷ terms) =
    own-append (own-append (own-when _ _ refl) (own-flat_map _ (λ value. own-append (own_value (place_of columns term.column) value) (own-if _ (own_range value) own-nil)) (test_values term.test)))
    (own_terms columns (next index) terms)

own_hidden : (columns : List Column) (terms : List Constraint) → AreOwn (hidden_forms columns terms)
own_hidden columns terms = own-append (own-when _ _ refl) (own-when _ _ refl)

own_select_forms : (columns : List Column) (select : SelectRows) → AreOwn (select_forms columns select)
own_select_forms columns select =
    own-append (own-append (own-append (own-append (own-append (own-append (own-append (own-append (own-append
    (own-when _ _ refl) (own-when _ _ refl)) (own-when _ _ refl)) (own-when _ _ refl)) (own-when _ _ refl)) (own-when _ _ refl))
    (own-when _ _ refl)) (own-when _ _ refl)) (own-when _ _ refl)) (own_hidden columns select.where_terms)

own_change_forms : (columns : List Column) (terms : List Constraint) → AreOwn (change_forms columns terms)
own_change_forms columns terms =
    own-append (own-append (own-append (own-append (own-append (own-append (own-append (own-append
    (own-when _ _ refl) (own-when _ _ refl)) (own-when _ _ refl)) (own-when _ _ refl)) (own-when _ _ refl)) (own-when _ _ refl))
    (own-when _ _ refl)) (own-when _ _ refl)) (own-when _ _ refl)

own_sets : (columns : List Column) (seen : List Place) (index : ℕ) (sets : List Assign) → AreOwn (sets_faults columns seen index sets)
own_sets columns seen index [] = own-nil
own_sets columns seen index (set ∷ sets) =
    own-append (own-append (own-append (own-when _ _ refl) (own-when _ _ refl)) (own_given (place_of columns set.column) set.value))
    (own_sets columns (seen ++ place_of columns set.column ∷ []) (next index) sets)

own_names : (columns : List Column) (index : ℕ) (names : List (List ℕ)) → AreOwn (names_faults columns index names)
own_names columns index [] = own-nil
own_names columns index (name ∷ names) = own-append (own-when _ _ refl) (own_names columns (next index) names)

own_items : (columns : List Column) (items : Items) → AreOwn (items_faults columns items)
own_items columns All = own-nil
own_items columns (NamedItems names) = own_names columns 1 names

own_limit_range : (nearest : Bool) (value : Value) → AreOwn (limit_range_faults nearest value)
own_limit_range nearest (Int n) = own-when _ _ refl
own_limit_range nearest Null = own-nil
own_limit_range nearest (Text t) = own-nil
own_limit_range nearest (Blob b) = own-nil
own_limit_range nearest (Int8 b) = own-nil
own_limit_range nearest (Bits b) = own-nil

own_limit : (nearest : Bool) (limit : Option Value) → AreOwn (limit_faults nearest limit)
own_limit nearest None = own-nil
own_limit nearest (Some value) = own-append (own_value Count value) (own_limit_range nearest value)

own_update : (columns : List Column) (update : UpdateRows) → AreOwn (update_faults columns update)
own_update columns update = own-append (own-append (own_sets columns [] 1 update.sets) (own_terms columns _ update.where_terms)) (own_change_forms columns update.where_terms)

own_delete : (columns : List Column) (delete : DeleteRows) → AreOwn (delete_faults columns delete)
own_delete columns delete = own-append (own_terms columns 1 delete.where_terms) (own_change_forms columns delete.where_terms)

own_select : (columns : List Column) (select : SelectRows) → AreOwn (select_faults columns select)
own_select columns select =
    own-append (own-append (own-append (own_items columns select.items) (own_terms columns _ select.where_terms)) (own_limit _ select.limit)) (own_select_forms columns select)

-- ---- the changes

own_long : (values : List Value) → AreOwn (long_values values)
own_long [] = own-nil
own_long (value ∷ values) = own-append (own-when _ _ refl) (own_long values)

own_taken : (rows : List Row) (rowid : Option ℤ) → AreOwn (taken_rowid rows rowid)
own_taken rows None = own-nil
own_taken rows (Some rowid) = own-when _ _ refl

own_duplicate : (row : Option Row) → AreOwn (duplicate row)
own_duplicate None = own-nil
own_duplicate (Some row) = record { all = (refl, tt) }

own_spent : (top : ℤ) (rowid : Option ℤ) → AreOwn (spent top rowid)
own_spent top None = own-when _ _ refl
own_spent top (Some rowid) = own-nil

own_refusals : (other : Elsewhere) (table : Table) (rowid : Option ℤ) (row : Row) (given : List Value) → AreOwn (row_refusals other table rowid row given)
own_refusals other table rowid row given =
    own-append (own-append (own-append (own-append (own_taken table.rows rowid) (own_duplicate _)) (own_spent table.top rowid)) (own_long given))
    (own-append (own-append (own-when _ _ refl) (own-when _ _ refl)) (own-when _ _ refl))

abbrev OwnGrown : Result Table Refusal → Type 0
OwnGrown (Err r) = IsOwn r
OwnGrown (Ok table) = Unit {0}

own_or : (o : Option Refusal) (grew : Result Table Refusal) → OwnOption o → OwnGrown grew → OwnGrown (or_grown o grew)
own_or None grew a b = b
own_or (Some r) grew a b = a

own_grown : (other : Elsewhere) (places : List Place) (table : Table) (rows : List (List Value)) → OwnGrown (grown other places table rows)
own_grown other places table [] = tt
own_grown other places table (given ∷ more) =
    own_or (first (group_refusals other table places given)) (grown other places (with_new_row table (new_row table places given)) more)
    (own_first (group_refusals other table places given) (own_refusals other table (given_rowid places given) (new_row table places given) given))
    (own_grown other places (with_new_row table (new_row table places given)) more)

own-over : (limit most count : ℕ) → AreOwn (over limit most count)
own-over limit most count = own-when _ _ refl

own_room : (other : Elsewhere) (table : Table) (update : UpdateRows) → AreOwn (update_refusals other table update)
own_room other table update =
    let rows = updated table.schema.columns update table.rows in
    own-append (own-append
    (own-if (nat_lt 0 (length (met table.schema.columns update.where_terms table.rows))) (own_long (map (λ set. set.value) update.sets)) own-nil)
    (own-over _ _ (other.vectors + rows_vector_bytes rows)))
    (own-over _ _ (other.sides + rows_side_bytes rows))

abbrev OwnChange : Result (Reply × Catalog) Refusal → Type 0
OwnChange (Err r) = IsOwn r
OwnChange (Ok (reply, new)) = is_fault reply ≡ false

own_none : (rs : List Refusal) (change : Reply × Catalog) → AreOwn rs → is_fault change.0 ≡ false → OwnChange (if_none rs change)
own_none [] change a h = h
own_none (r ∷ rs) change a h = a.all.0

own_grew : (insert : InsertRows) (last : ℤ) (tables : List Named) (grew : Result Table Refusal) → OwnGrown grew → OwnChange (grown_catalog insert last tables grew)
own_grew insert last tables (Err r) h = h
own_grew insert last tables (Ok table) h = refl

-- ---- the answers

own_unless : (rs : List Refusal) (s : State) (answer : Reply × State) → AreOwn rs → is_fault answer.0 ≡ false → is_fault (unless rs s answer).0 ≡ false
own_unless [] s answer a h = h
own_unless (r ∷ rs) s answer a h = a.all.0

own_busy : (o : Option Session) → AreOwn (busy o)
own_busy None = own-nil
own_busy (Some session) = record { all = (refl, tt) }

own_old : (s : State) (phase : Phase) → AreOwn (old_snapshot s phase)
own_old s Idle = own-nil
own_old s (Reading catalog number) = own-when _ _ refl
own_old s (Writing base work) = own-nil

own_once : (s : State) (phase : Phase) → AreOwn (spent_at_once s phase)
own_once s Idle = own-when _ _ refl
own_once s (Reading catalog number) = own-nil
own_once s (Writing base work) = own-nil

own_wrote : (s : State) (session : Session) (change : Result (Reply × Catalog) Refusal) → OwnChange change → is_fault (wrote s session change).0 ≡ false
own_wrote s session (Err r) h = h
own_wrote s session (Ok (reply, new)) h = own_unless (spent_at_once s session.phase) s _ (own_once s session.phase) h

own_writes : (s : State) (session : Session) (fault : Option Refusal) (change : Result (Reply × Catalog) Refusal) → OwnOption fault → OwnChange change → is_fault (writes s session fault change).0 ≡ false
own_writes s session fault change a h =
    own_unless (listed fault ++ busy_beside s session ++ old_snapshot s session.phase) s _ (own-append (own-append (own_listed fault a) (own_busy _)) (own_old s session.phase)) (own_wrote s session change h)

own_committed : (s : State) (session : Session) (phase : Phase) → is_fault (committed s session phase).0 ≡ false
own_committed s session Idle = refl
own_committed s session (Reading catalog number) = refl
own_committed s session (Writing base work) = own_unless (commits_spent s) s _ (own-when _ _ refl) refl

own_created : (name : List ℕ) (schema : Schema) (s : State) (session : Session) (named : Option Named) → is_fault (created name schema s session named).0 ≡ false
own_created name schema s session (Some named) = refl
own_created name schema s session None = own_writes s session None (if_none (over_tables (length (seen s session).tables + 1)) _) tt (own_none _ _ (own-when _ _ refl) refl)

own_dropped : (name : List ℕ) (s : State) (session : Session) (named : Option Named) → is_fault (dropped name s session named).0 ≡ false
own_dropped name s session None = refl
own_dropped name s session (Some named) = own_writes s session None (Ok (Done, with_tables (other_tables name (seen s session).tables))) tt refl

own_inserted : (insert : InsertRows) (s : State) (session : Session) (named : Option Named) → is_fault (inserted insert s session named).0 ≡ false
own_inserted insert s session None = refl
own_inserted insert s session (Some named) =
    own_writes s session _ (inserted_catalog insert (seen s session) named.table) (own_least (own_insert named.table.schema.columns insert)) (own_grew insert _ _ _ (own_grown _ _ _ insert.rows))

own_updates : (update : UpdateRows) (s : State) (session : Session) (named : Option Named) → is_fault (updates update s session named).0 ≡ false
own_updates update s session None = refl
own_updates update s session (Some named) =
    own_writes s session _ (updated_catalog update (seen s session) named.table) (own_least (own_update named.table.schema.columns update))
    (own_none (update_refusals (elsewhere update.table (seen s session)) named.table update) _ (own_room (elsewhere update.table (seen s session)) named.table update) refl)

own_deletes : (delete : DeleteRows) (s : State) (session : Session) (named : Option Named) → is_fault (deletes delete s session named).0 ≡ false
own_deletes delete s session None = refl
own_deletes delete s session (Some named) =
    own_writes s session _ (Ok (kept_catalog delete (seen s session) named.table)) (own_least (own_delete named.table.schema.columns delete)) refl

own_checked : (columns : List Column) (select : SelectRows) → AreOwn (listed (check_select columns select))
own_checked columns select = own_listed (check_select columns select) (own_least (own_select columns select))

own_selected : (select : SelectRows) (s : State) (named : Option Named) → is_fault (selected select s named).0 ≡ false
own_selected select s None = refl
own_selected select s (Some named) =
    let rows = answer named.table select in
    own_unless (listed (check_select named.table.schema.columns select) ++ too_many select (length rows)) s (Rows rows, s)
    (own-append (own_checked named.table.schema.columns select) (own-when _ _ refl)) refl

own_explained : (select : SelectRows) (s : State) (named : Option Named) → is_fault (explained select s named).0 ≡ false
own_explained select s None = refl
own_explained select s (Some named) = own_unless (listed (check_select named.table.schema.columns select)) s _ (own_checked named.table.schema.columns select) refl

own_begun : (immediate : Bool) (s : State) (session : Session) → AreOwn (when (not (is_idle session.phase)) TxnState ++ (if immediate then busy_beside s session else []))
own_begun immediate s session = own-append (own-when _ _ refl) (own-if immediate (own_busy _) own-nil)

own_rolled_to : (name : List ℕ) (s : State) (session : Session) (mark : Option Mark) → is_fault (rolled_to name s session mark).0 ≡ false
own_rolled_to name s session None = refl
own_rolled_to name s session (Some mark) = refl

own_released : (name : List ℕ) (s : State) (session : Session) (mark : Option Mark) → is_fault (released name s session mark).0 ≡ false
own_released name s session None = refl
own_released name s session (Some mark) =
    elim (length (before_mark name session.marks) == 0 && session.by_savepoint) as (λ b. is_fault (if b then committed s session session.phase else (Done, in_session s (record session { marks = before_mark name session.marks }))).0 ≡ false)
    [ true ↦ own_committed s session session.phase | false ↦ refl ]

own_executed : (s : State) (session : Session) (statement : Statement) → is_fault (executed s session statement).0 ≡ false
own_executed s session (Create name schema) = own_created name schema s session (found name s session)
own_executed s session (Drop name) = own_dropped name s session (found name s session)
own_executed s session (Insert insert) = own_inserted insert s session (found insert.table s session)
own_executed s session (Update update) = own_updates update s session (found update.table s session)
own_executed s session (Delete delete) = own_deletes delete s session (found delete.table s session)
own_executed s session (Select select) = own_selected select s (found select.table s session)
own_executed s session (Explain select) = own_explained select s (found select.table s session)
own_executed s session (Begin immediate) = own_unless _ s _ (own_begun immediate s session) refl
own_executed s session CommitWork = own_committed s session session.phase
own_executed s session Rollback = own_unless _ s _ (own-when (is_idle session.phase) TxnState refl) refl
own_executed s session (RollbackTo name) = own_rolled_to name s session (newest_mark name session.marks)
own_executed s session (Savepoint name) = own_unless _ s _ (own-over _ _ (length session.marks + 1)) refl
own_executed s session (Release name) = own_released name s session (newest_mark name session.marks)

own_cursor_opened : (select : SelectRows) (s : State) (session : Session) (named : Option Named) → is_fault (cursor_opened select s session named).0 ≡ false
own_cursor_opened select s session None = refl
own_cursor_opened select s session (Some named) =
    own_unless _ s _ (own-append (own-append (own_checked named.table.schema.columns select) (own-over _ _ (length session.cursors + 1))) (own-over _ _ (session.last_cursor + 1))) refl

own_fetched : (count : ℕ) (s : State) (session : Session) (cursor : Option CursorRows) → is_fault (fetched count s session cursor).0 ≡ false
own_fetched count s session None = refl
own_fetched count s session (Some cursor) = refl

own_cursor_closed : (number : ℕ) (s : State) (session : Session) (cursor : Option CursorRows) → is_fault (cursor_closed number s session cursor).0 ≡ false
own_cursor_closed number s session None = refl
own_cursor_closed number s session (Some cursor) = refl

own_where_open : (s : State) (session : Option Session) (f : Session → Reply × State) → ((session : Session) → is_fault (f session).0 ≡ false) → is_fault (where_open s session f).0 ≡ false
own_where_open s None f h = refl
own_where_open s (Some session) f h = h session

pub own_answer : (s : State) (request : Request) → is_fault (answer_of s request).0 ≡ false
own_answer s OpenSession = own_unless _ s _ (own-append (own-over _ _ (length s.sessions + 1)) (own-over _ _ (s.last_id + 1))) refl
own_answer s (CloseSession id) = own_where_open s (session_of id s.sessions) _ (λ session. refl)
own_answer s (Execute id statement) = own_where_open s (session_of id s.sessions) _ (λ session. own_executed s session statement)
own_answer s (OpenCursor id select) = own_where_open s (session_of id s.sessions) _ (λ session. own_cursor_opened select s session (found select.table s session))
own_answer s (Fetch id number count) = own_where_open s (session_of id s.sessions) _ (λ session. own_fetched count s session (cursor_of number session.cursors))
own_answer s (CloseCursor id number) = own_where_open s (session_of id s.sessions) _ (λ session. own_cursor_closed number s session (cursor_of number session.cursors))
