-- Writes by what refuses them, and the versions that they make.
use Rattle.std.proofs.Common.{false, is_some, ◌≡◌, ◌⊎◌, ℕ, ◌+◌, ◌-◌, ◌<◌, ◌≤◌, ℤ, pos, List, [], ◌∷◌, length, set, Option, Some, None, IsSome, Result, Ok, Err, inl, inr, refl, sym, ap, ap₂, ◌∙◌, subst}
use Rattle.std.specs.Prelude.{IfNone, IfSome}
use Rattle.std.proofs.Math.ListN.{get_or-map}
use Rattle.std.proofs.lemmas.List.{map-set}
use Rattle.vec_base.specs.declared.refusal.Refusal.{Refusal}
use Rattle.vec_base.specs.declared.refusal.Refusal.TheVariants.{WantOfMemory}
use Rattle.row_model.specs.declared.request.Reply.{Reply}
use Rattle.row_model.specs.declared.request.Reply.TheVariants.{Changed as ChangedRows, Done, Inserted}
use Rattle.row_model.specs.declared.row.Catalog.{Catalog}
use Rattle.row_model.specs.declared.row.Named.{Named}
use Rattle.row_model.specs.declared.row.Table.{Table}
use Rattle.row_model.specs.declared.schema.Schema.{Schema}
use Rattle.row_model.specs.declared.state.Session.{Session}
use Rattle.row_model.specs.declared.state.State.{State}
use Rattle.row_model.specs.declared.statement.Assign.{Assign}
use Rattle.row_model.specs.declared.statement.Delete.{Delete}
use Rattle.row_model.specs.declared.statement.Insert.{Insert}
use Rattle.row_model.specs.declared.statement.Select.{Select}
use Rattle.row_model.specs.declared.statement.Update.{Update}
use Rattle.row_model.specs.Change.{add_table, elsewhere, grown, kept, last_rowid, other_tables, table_named, update_refusals, updated, with_new_table, with_rows, with_table}
use Rattle.row_model.specs.Check.{check_delete, check_insert, check_update}
use Rattle.row_model.specs.Limits.{over_tables}
use Rattle.row_model.specs.Machine.{refused}
use Rattle.row_model.specs.RefusalOrder.{first}
use Rattle.row_model.specs.Step.{created, deletes, dropped, found, grown_catalog, if_none, inserted, inserted_catalog, kept_catalog, updated_catalog, updates, with_tables, writes, wrote}
use Rattle.row_model.specs.Valid.{IsValidCatalog, IsValidState}
use Rattle.row_model.specs.Values.{met}
use Rattle.shadow_records.specs.PlacedTables.{PlacedTable, plain, plain_rows}
use Rattle.table_version.specs.Versions.{KeepsOrigin, VersionState, empty_table}
use Rattle.table_writes.specs.declared.beside.Beside.{Beside}
use Rattle.table_writes.specs.Writing.{delete_with, elsewhere_of, places_named, update_with}
use Rattle.vec_base.specs.declared.limits.TheConstants.{MOST_TABLES}
use Rattle.version_shelf.specs.declared.held.Held.{Held}
use Rattle.version_shelf.specs.declared.slots.Kept.{Kept}
use Rattle.version_shelf.specs.Numbers.{IsFree, IsNumber, numbered}
use Rattle.version_shelf.specs.OnShelf.{OnShelf, at_place, shown}
use Rattle.version_shelf.specs.Shares.{IsShared}
use Rattle.version_shelf.proofs.PlaceLaws.{on-set}
use Rattle.txn_sessions.specs.declared.change.Changed.{Changed}
use Rattle.txn_sessions.specs.declared.machine.Machine.{Machine}
use Rattle.txn_sessions.specs.declared.turn.Turn.{Turn}
use Rattle.txn_sessions.specs.Changes.{IsPut, changed_catalog}
use Rattle.txn_sessions.specs.Moves.{Moved}
use Rattle.txn_sessions.specs.Seen.{catalog_at, held_seen, session_at, state_of}
use Rattle.txn_sessions.specs.Sound.{IsOn, IsSound}
use Rattle.txn_sessions.specs.Turns.{TurnsTo, TurnsToOrWants}
use Rattle.txn_sessions.proofs.ChangeLaws.{comes-on, held-seen-on, seen-is, session-moved, turns-moved, wants-moved, writes-barred, writes-made}
use Rattle.txn_writes.specs.inner.Makes.{IsOpened, Makes, MakesChange, catalog_seen, version_seen, versions_seen, write_refusal}

-- ---- on a shelf that was swept

pub write-moved : (f : State → Session → Reply × State) (old mid new : Machine) (at : ℕ) (turn : Turn) → Moved old mid → TurnsToOrWants mid (f (state_of mid) (session_at mid at)) turn new → TurnsToOrWants old (f (state_of old) (session_at old at)) turn new
write-moved f old mid new at turn moved t = wants-moved old mid new _ _ turn moved (ap₂ f (sym moved.same) (sym (session-moved old mid at moved))) t

pub exact-moved : (f : State → Session → Reply × State) (old mid new : Machine) (at : ℕ) (turn : Turn) → Moved old mid → TurnsTo mid (f (state_of mid) (session_at mid at)) turn new → TurnsTo old (f (state_of old) (session_at old at)) turn new
exact-moved f old mid new at turn moved t = turns-moved old mid new _ _ turn moved (ap₂ f (sym moved.same) (sym (session-moved old mid at moved))) t

pub valid-moved : (old mid : Machine) → Moved old mid → IsValidState (state_of old) → IsValidState (state_of mid)
valid-moved old mid moved valid = subst (λ (s : State). IsValidState s) (sym moved.same) valid

-- ---- the table of the name

found-is : (m : Machine) (at : ℕ) (name : List ℕ) → found name (state_of m) (session_at m at) ≡ table_named name (catalog_seen m at).tables
found-is m at name = ap (λ (c : Catalog). table_named name c.tables) (seen-is m at)

pub found-some : (m : Machine) (at : ℕ) (name : List ℕ) (number : ℕ) (n : IsNumber name (versions_seen m at) number) → found name (state_of m) (session_at m at) ≡ Some n.from.found
found-some m at name number n = found-is m at name ∙ n.from.is

pub version-is : (m : Machine) (at : ℕ) (name : List ℕ) (number : ℕ) (n : IsNumber name (versions_seen m at) number) → version_seen m at number ≡ Some n.from.version
version-is m at name number n = sym (get_or-map (at_place m.shelf) (held_seen m at).places (number - 1) None) ∙ n.from.there

pub version-there : (m : Machine) (at : ℕ) (name : List ℕ) (number : ℕ) → IsNumber name (versions_seen m at) number → IsSome (version_seen m at number)
version-there m at name number n = (let P : Option VersionState → Type 0 = λ o. IsSome o in subst P (sym (version-is m at name number n)) refl)

some-is : {A : Type 0} (a b : A) → Some a ≡ Some b → a ≡ b
some-is a b h = cc

pub table-is : (m : Machine) (at : ℕ) (name : List ℕ) (number : ℕ) (v : VersionState) (n : IsNumber name (versions_seen m at) number) → version_seen m at number ≡ Some v → n.from.version.table ≡ v.table
table-is m at name number v n is = ap (λ (w : VersionState). w.table) (some-is n.from.version v (sym (version-is m at name number n) ∙ is))

pub opens : (m : Machine) (at number : ℕ) (kept : Kept) → number ≤ MOST_TABLES → ((old : VersionState) → version_seen m at number ≡ Some old → IsShared m.shelf old kept.version kept.origin) →
    (name : List ℕ) → IsNumber name (versions_seen m at) number → IsOpened m at name number kept
opens m at number kept high shares name n =
    let shared = shares n.from.version (version-is m at name number n) in
    record { high = high; number_is = n; same = shared.same; from = shared.from }

-- what holds of the version under the number holds of the table of the name
pub number-for : (P : PlacedTable → Type 0) (m : Machine) (at : ℕ) (name : List ℕ) (number : ℕ) (n : IsNumber name (versions_seen m at) number) → IfSome (version_seen m at number) (λ version. P version.table) → P n.from.version.table
number-for P m at name number n holds = subst (λ (v : Option VersionState). IfSome v (λ version. P version.table)) (version-is m at name number n) holds

-- and of the opened version
pub opened-for : (P : PlacedTable → Type 0) (m : Machine) (at : ℕ) (name : List ℕ) (number : ℕ) (kept : Kept) → IsOpened m at name number kept → IfSome (version_seen m at number) (λ version. P version.table) → P kept.version.table
opened-for P m at name number kept o holds =
    subst P (sym o.same) (number-for P m at name number o.number_is holds)

-- what holds of a version holds of the one under the number
pub seen-for : (P : PlacedTable → Type 0) (m : Machine) (at number : ℕ) (v : VersionState) → version_seen m at number ≡ Some v → P v.table → IfSome (version_seen m at number) (λ version. P version.table)
seen-for P m at number v is holds = (let Q : Option VersionState → Type 0 = λ o. IfSome o (λ version. P version.table) in subst Q (sym is) holds)

-- ---- a write by what refuses it

pub makes : (m : Machine) (at : ℕ) (answer : Reply × State) (fault : Option Refusal) (change : Result (Reply × Catalog) Refusal) (made : Result Changed Refusal) → answer ≡ writes (state_of m) (session_at m at) fault change → fault ≡ None →
    write_refusal m at ≡ None → MakesChange m.shelf change made → Makes m at answer made
makes m at answer fault change (Ok changed) is fine free made = (made.0, is ∙ writes-made (state_of m) (session_at m at) fault change (Ok (changed.reply, changed_catalog m.shelf changed)) fine (sym free) made.1)
makes m at answer fault change (Err refusal) is fine free (inl made) = inl (is ∙ writes-made (state_of m) (session_at m at) fault change (Err refusal) fine (sym free) made)
makes m at answer fault change (Err refusal) is fine free (inr wants) = inr wants

pub faulted : (m : Machine) (at : ℕ) (answer : Reply × State) (fault : Option Refusal) (change : Result (Reply × Catalog) Refusal) (refusal : Refusal) → answer ≡ writes (state_of m) (session_at m at) fault change → fault ≡ Some refusal →
    Makes m at answer (Err refusal)
faulted m at answer fault change refusal is fault_is = inl (is ∙ ap (λ o. writes (state_of m) (session_at m at) o change) fault_is)

pub barred : (m : Machine) (at : ℕ) (answer : Reply × State) (fault : Option Refusal) (change : Result (Reply × Catalog) Refusal) (refusal : Refusal) → answer ≡ writes (state_of m) (session_at m at) fault change → fault ≡ None →
    (write_refusal m at ≡ Some refusal) ⊎ (refusal ≡ WantOfMemory) → Makes m at answer (Err refusal)
barred m at answer fault change refusal is fine (inl first_one) = inl (is ∙ writes-barred (state_of m) (session_at m at) fault change refusal fine (sym first_one))
barred m at answer fault change refusal is fine (inr wants) = inr wants

-- ---- a changed version

-- the changed one of the opened version
abbrev pub changed_from : Machine → ℕ → ℕ → Kept → VersionState → Reply → Changed
changed_from m at number kept new reply = record { held = held_seen m at; number = number; version = new; origin = kept.origin; reply = reply }

pub puts : (m : Machine) (at : ℕ) (name : List ℕ) (number : ℕ) (kept : Kept) (new : VersionState) (reply : Reply) → IsSound m → at < length m.sessions.items → IsOpened m at name number kept → KeepsOrigin kept.version new →
    IsPut m.shelf (changed_from m at number kept new reply)
puts m at name number kept new reply sound within o origin = record {
  low = o.number_is.low;
  high = o.high;
  held = held-seen-on m at sound within;
  from = comes-on m.shelf kept.origin kept.version new origin o.from;
}

pub puts-in : (m : Machine) (at : ℕ) (name : List ℕ) (number : ℕ) (kept : Kept) (new : VersionState) (reply : Reply) → IsOpened m at name number kept → new.table.name ≡ kept.version.table.name →
    with_tables (with_table name (plain new.table) (catalog_seen m at).tables) ≡ changed_catalog m.shelf (changed_from m at number kept new reply)
puts-in m at name number kept new reply o same = ap with_tables (o.number_is.from.put new (same ∙ ap (λ (t : PlacedTable). t.name) o.same))

-- ---- INSERT

pub inserted-is : (m : Machine) (at : ℕ) (insert : Insert) (number : ℕ) (table : PlacedTable) (n : IsNumber insert.table (versions_seen m at) number) → n.from.version.table ≡ table →
    inserted insert (state_of m) (session_at m at) (found insert.table (state_of m) (session_at m at))
    ≡ writes (state_of m) (session_at m at) (check_insert table.schema.columns insert) (inserted_catalog insert (catalog_seen m at) (plain table))
inserted-is m at insert number table n same =
    ap (λ o. inserted insert (state_of m) (session_at m at) o) (found-some m at insert.table number n)
    ∙ ap₂ (λ (c : Catalog) (t : Table). writes (state_of m) (session_at m at) (check_insert t.schema.columns insert) (inserted_catalog insert c t)) (seen-is m at) (n.from.same ∙ ap plain same)

pub inserted-made : (m : Machine) (at : ℕ) (insert : Insert) (number : ℕ) (kept : Kept) (new : VersionState) (last : ℤ) (beside : Beside) → IsOpened m at insert.table number kept → elsewhere_of beside ≡ elsewhere insert.table (catalog_seen m at) →
    grown (elsewhere_of beside) (places_named kept.version.table.schema.columns insert.columns) (plain kept.version.table) insert.rows ≡ Ok (plain new.table) →
    last ≡ last_rowid (pos 0) (places_named kept.version.table.schema.columns insert.columns) (plain kept.version.table) insert.rows → new.table.name ≡ kept.version.table.name →
    inserted_catalog insert (catalog_seen m at) (plain kept.version.table)
    ≡ Ok (Inserted (length insert.rows) last, changed_catalog m.shelf (changed_from m at number kept new (Inserted (length insert.rows) last)))
inserted-made m at insert number kept new last beside o other made rowid name =
    ap (λ e. grown_catalog insert (last_rowid (pos 0) (places_named kept.version.table.schema.columns insert.columns) (plain kept.version.table) insert.rows) (catalog_seen m at).tables
    (grown e (places_named kept.version.table.schema.columns insert.columns) (plain kept.version.table) insert.rows)) (sym other)
    ∙ ap₂ (λ i g. grown_catalog insert i (catalog_seen m at).tables g) (sym rowid) made
    ∙ ap (λ (c : Catalog). Ok (Inserted (length insert.rows) last, c)) (puts-in m at insert.table number kept new (Inserted (length insert.rows) last) o name)

pub inserted-refused : (m : Machine) (at : ℕ) (insert : Insert) (kept : Kept) (beside : Beside) (refusal : Refusal) → elsewhere_of beside ≡ elsewhere insert.table (catalog_seen m at) →
    (grown (elsewhere_of beside) (places_named kept.version.table.schema.columns insert.columns) (plain kept.version.table) insert.rows ≡ Err refusal) ⊎ (refusal ≡ WantOfMemory) →
    MakesChange m.shelf (inserted_catalog insert (catalog_seen m at) (plain kept.version.table)) (Err refusal)
inserted-refused m at insert kept beside refusal other (inl made) =
    inl (ap (λ e. grown_catalog insert (last_rowid (pos 0) (places_named kept.version.table.schema.columns insert.columns) (plain kept.version.table) insert.rows) (catalog_seen m at).tables
    (grown e (places_named kept.version.table.schema.columns insert.columns) (plain kept.version.table) insert.rows)) (sym other)
    ∙ ap (λ g. grown_catalog insert (last_rowid (pos 0) (places_named kept.version.table.schema.columns insert.columns) (plain kept.version.table) insert.rows) (catalog_seen m at).tables g) made)
inserted-refused m at insert kept beside refusal other (inr wants) = inr wants

-- ---- UPDATE

pub updates-is : (m : Machine) (at : ℕ) (update : Update) (number : ℕ) (table : PlacedTable) (n : IsNumber update.table (versions_seen m at) number) → n.from.version.table ≡ table →
    updates update (state_of m) (session_at m at) (found update.table (state_of m) (session_at m at))
    ≡ writes (state_of m) (session_at m at) (check_update table.schema.columns update) (updated_catalog update (catalog_seen m at) (plain table))
updates-is m at update number table n same =
    ap (λ o. updates update (state_of m) (session_at m at) o) (found-some m at update.table number n)
    ∙ ap₂ (λ (c : Catalog) (t : Table). writes (state_of m) (session_at m at) (check_update t.schema.columns update) (updated_catalog update c t)) (seen-is m at) (n.from.same ∙ ap plain same)

if_some : (refusals : List Refusal) (change : Reply × Catalog) (refusal : Refusal) → first refusals ≡ Some refusal → if_none refusals change ≡ Err refusal
if_some [] change refusal h = cc
if_some (r ∷ rs) change refusal h = (let same : r ≡ refusal = cc in ap Err same)

pub updated-made : (m : Machine) (at : ℕ) (update : Update) (number : ℕ) (kept : Kept) (new : VersionState) (count : ℕ) (beside : Beside) → IsOpened m at update.table number kept → elsewhere_of beside ≡ elsewhere update.table (catalog_seen m at) →
    update_refusals (elsewhere_of beside) (plain kept.version.table) update ≡ [] →
    plain new.table ≡ with_rows (plain kept.version.table) (updated kept.version.table.schema.columns update (plain_rows kept.version.table.rows)) →
    count ≡ length (met kept.version.table.schema.columns update.where_terms (plain_rows kept.version.table.rows)) → new.table.name ≡ kept.version.table.name →
    updated_catalog update (catalog_seen m at) (plain kept.version.table) ≡ Ok (ChangedRows count, changed_catalog m.shelf (changed_from m at number kept new (ChangedRows count)))
updated-made m at update number kept new count beside o other welcome made counted name =
    ap (λ l. if_none l (
      ChangedRows (length (met kept.version.table.schema.columns update.where_terms (plain_rows kept.version.table.rows))),
      with_tables (with_table update.table (with_rows (plain kept.version.table) (updated kept.version.table.schema.columns update (plain_rows kept.version.table.rows))) (catalog_seen m at).tables),
    ))
    (ap (λ e. update_refusals e (plain kept.version.table) update) (sym other) ∙ welcome)
    ∙ ap₂ (λ n t. Ok (ChangedRows n, with_tables (with_table update.table t (catalog_seen m at).tables))) (sym counted) (sym made)
    ∙ ap (λ (c : Catalog). Ok (ChangedRows count, c)) (puts-in m at update.table number kept new (ChangedRows count) o name)

pub updated-refused : (m : Machine) (at : ℕ) (update : Update) (kept : Kept) (beside : Beside) (refusal : Refusal) → elsewhere_of beside ≡ elsewhere update.table (catalog_seen m at) →
    (first (update_refusals (elsewhere_of beside) (plain kept.version.table) update) ≡ Some refusal) ⊎ (refusal ≡ WantOfMemory) →
    MakesChange m.shelf (updated_catalog update (catalog_seen m at) (plain kept.version.table)) (Err refusal)
updated-refused m at update kept beside refusal other (inl first_one) = inl (if_some _ _ refusal (ap (λ e. first (update_refusals e (plain kept.version.table) update)) (sym other) ∙ first_one))
updated-refused m at update kept beside refusal other (inr wants) = inr wants

pub update-is : (update : Update) (select : Select) (sets : List Assign) → select.table ≡ update.table → select.where_terms ≡ update.where_terms → sets ≡ update.sets → update_with select sets ≡ update
update-is update select sets table terms same = ap (λ t. record { table = t; sets = sets; where_terms = select.where_terms }) table ∙ ap₂ (λ s w. record { table = update.table; sets = s; where_terms = w }) same terms

-- ---- DELETE

pub deletes-is : (m : Machine) (at : ℕ) (delete : Delete) (number : ℕ) (table : PlacedTable) (n : IsNumber delete.table (versions_seen m at) number) → n.from.version.table ≡ table →
    deletes delete (state_of m) (session_at m at) (found delete.table (state_of m) (session_at m at))
    ≡ writes (state_of m) (session_at m at) (check_delete table.schema.columns delete) (Ok (kept_catalog delete (catalog_seen m at) (plain table)))
deletes-is m at delete number table n same =
    ap (λ o. deletes delete (state_of m) (session_at m at) o) (found-some m at delete.table number n)
    ∙ ap₂ (λ (c : Catalog) (t : Table). writes (state_of m) (session_at m at) (check_delete t.schema.columns delete) (Ok (kept_catalog delete c t))) (seen-is m at) (n.from.same ∙ ap plain same)

abbrev kept_change : Delete → Catalog → Table → Result (Reply × Catalog) Refusal
kept_change delete catalog table = Ok (kept_catalog delete catalog table)

pub deleted-made : (m : Machine) (at : ℕ) (delete : Delete) (number : ℕ) (kept_one : Kept) (new : VersionState) (count : ℕ) → IsOpened m at delete.table number kept_one →
    plain new.table ≡ with_rows (plain kept_one.version.table) (kept kept_one.version.table.schema.columns delete (plain_rows kept_one.version.table.rows)) →
    count ≡ length (met kept_one.version.table.schema.columns delete.where_terms (plain_rows kept_one.version.table.rows)) → new.table.name ≡ kept_one.version.table.name →
    kept_change delete (catalog_seen m at) (plain kept_one.version.table) ≡ Ok (ChangedRows count, changed_catalog m.shelf (changed_from m at number kept_one new (ChangedRows count)))
deleted-made m at delete number kept_one new count o made counted name =
    ap₂ (λ n t. Ok (ChangedRows n, with_tables (with_table delete.table t (catalog_seen m at).tables))) (sym counted) (sym made)
    ∙ ap (λ (c : Catalog). Ok (ChangedRows count, c)) (puts-in m at delete.table number kept_one new (ChangedRows count) o name)

pub deleted-barred : (m : Machine) (at : ℕ) (delete : Delete) (number : ℕ) (refusal : Refusal) (n : IsNumber delete.table (versions_seen m at) number) → check_delete n.from.version.table.schema.columns delete ≡ None →
    (write_refusal m at ≡ Some refusal) ⊎ (refusal ≡ WantOfMemory) → Makes m at (deletes delete (state_of m) (session_at m at) (found delete.table (state_of m) (session_at m at))) (Err refusal)
deleted-barred m at delete number refusal n fine why =
    barred m at _ (check_delete n.from.version.table.schema.columns delete) (kept_change delete (catalog_seen m at) (plain n.from.version.table)) refusal (deletes-is m at delete number n.from.version.table n refl) fine why

pub deleted-faulted : (m : Machine) (at : ℕ) (delete : Delete) (number : ℕ) (table : PlacedTable) (refusal : Refusal) (n : IsNumber delete.table (versions_seen m at) number) → n.from.version.table ≡ table →
    check_delete table.schema.columns delete ≡ Some refusal → Makes m at (deletes delete (state_of m) (session_at m at) (found delete.table (state_of m) (session_at m at))) (Err refusal)
deleted-faulted m at delete number table refusal n same fault =
    faulted m at _ (check_delete table.schema.columns delete) (kept_change delete (catalog_seen m at) (plain table)) refusal (deletes-is m at delete number table n same) fault

pub delete-is : (delete : Delete) (select : Select) → select.table ≡ delete.table → select.where_terms ≡ delete.where_terms → delete_with select ≡ delete
delete-is delete select table terms = ap₂ (λ t w. record { table = t; where_terms = w }) table terms

-- ---- CREATE

pub if-there_is_none : {A : Type 0} (P : Type 0) (o : Option A) → is_some o ≡ false → IfNone o P → P
if-there_is_none P None none holds = holds
if-there_is_none P (Some x) none holds = absurd cc

pub created-is : (m : Machine) (at : ℕ) (name : List ℕ) (schema : Schema) → found name (state_of m) (session_at m at) ≡ None →
    created name schema (state_of m) (session_at m at) (found name (state_of m) (session_at m at))
    ≡ writes (state_of m) (session_at m at) None (if_none (over_tables (length (catalog_seen m at).tables + 1)) (Done, with_tables (with_new_table name schema (catalog_seen m at).tables)))
created-is m at name schema none =
    ap (λ o. created name schema (state_of m) (session_at m at) o) none
    ∙ ap (λ (c : Catalog). writes (state_of m) (session_at m at) None (if_none (over_tables (length c.tables + 1)) (Done, with_tables (with_new_table name schema c.tables)))) (seen-is m at)

pub created-refused : (m : Machine) (at : ℕ) (name : List ℕ) (schema : Schema) (refusal : Refusal) → first (over_tables (length (catalog_seen m at).tables + 1)) ≡ Some refusal →
    MakesChange m.shelf (if_none (over_tables (length (catalog_seen m at).tables + 1)) (Done, with_tables (with_new_table name schema (catalog_seen m at).tables))) (Err refusal)
created-refused m at name schema refusal first_one = inl (if_some _ _ refusal first_one)

if_no : (refusals : List Refusal) (change : Reply × Catalog) → first refusals ≡ None → if_none refusals change ≡ Ok change
if_no [] change h = refl
if_no (r ∷ rs) change h = cc

pub created-made : (m : Machine) (at : ℕ) (name : List ℕ) (schema : Schema) (number : ℕ) (new : VersionState) → first (over_tables (length (catalog_seen m at).tables + 1)) ≡ None → IsFree (versions_seen m at) number → new.table ≡ empty_table name schema →
    if_none (over_tables (length (catalog_seen m at).tables + 1)) (Done, with_tables (with_new_table name schema (catalog_seen m at).tables))
    ≡ Ok (Done, changed_catalog m.shelf (record { held = held_seen m at; number = number; version = new; origin = None; reply = Done }))
created-made m at name schema number new room free empty =
    if_no (over_tables (length (catalog_seen m at).tables + 1)) _ room
    ∙ ap (λ (n : Named). Ok (Done, with_tables (add_table n (catalog_seen m at).tables)))
    (ap₂ (λ (i : ℕ) (t : PlacedTable). record { number = i; name = t.name; table = plain t }) free.is (sym empty))
    ∙ ap (λ ts. Ok (Done, with_tables ts)) (free.put new)

pub creates : (m : Machine) (at number : ℕ) (held : Held) (new : VersionState) → IsSound m → at < length m.sessions.items → held ≡ held_seen m at → 1 ≤ number → number ≤ MOST_TABLES →
    IsPut m.shelf (record { held = held; number = number; version = new; origin = None; reply = Done })
creates m at number held new sound within is low high = record { low = low; high = high; held = rw is (held-seen-on m at sound within); from = tt }

-- ---- DROP

pub dropped-is : (m : Machine) (at : ℕ) (name : List ℕ) (number : ℕ) → IsNumber name (versions_seen m at) number →
    dropped name (state_of m) (session_at m at) (found name (state_of m) (session_at m at))
    ≡ writes (state_of m) (session_at m at) None (Ok (Done, with_tables (other_tables name (catalog_seen m at).tables)))
dropped-is m at name number n =
    ap (λ o. dropped name (state_of m) (session_at m at) o) (found-some m at name number n)
    ∙ ap (λ (c : Catalog). writes (state_of m) (session_at m at) None (Ok (Done, with_tables (other_tables name c.tables)))) (seen-is m at)

pub dropped-barred : (m : Machine) (at : ℕ) (name : List ℕ) (number : ℕ) (refusal : Refusal) → IsNumber name (versions_seen m at) number → write_refusal m at ≡ Some refusal →
    dropped name (state_of m) (session_at m at) (found name (state_of m) (session_at m at)) ≡ refused (state_of m) refusal
dropped-barred m at name number refusal n barred_by =
    dropped-is m at name number n ∙ writes-barred (state_of m) (session_at m at) None (Ok (Done, with_tables (other_tables name (catalog_seen m at).tables))) refusal refl (sym barred_by)

pub without-on : (m : Machine) (at number : ℕ) (held : Held) → IsSound m → at < length m.sessions.items → held.places ≡ set (held_seen m at).places (number - 1) None → IsOn m.shelf held
without-on m at number held sound within is =
    subst (λ ps. OnShelf m.shelf ps) (sym is) (on-set m.shelf (held_seen m at).places (number - 1) None (held-seen-on m at sound within) tt)

pub dropped-made : (m : Machine) (at : ℕ) (name : List ℕ) (number : ℕ) (held : Held) → IsNumber name (versions_seen m at) number → IsValidCatalog (catalog_seen m at) → held.places ≡ set (held_seen m at).places (number - 1) None →
    write_refusal m at ≡ None →
    dropped name (state_of m) (session_at m at) (found name (state_of m) (session_at m at)) ≡ wrote (state_of m) (session_at m at) (Ok (Done, catalog_at m.shelf held))
dropped-made m at name number held n valid is free =
    dropped-is m at name number n
    ∙ writes-made (state_of m) (session_at m at) None _ _ refl (sym free)
    (ap (λ ts. Ok (Done, with_tables ts))
    (n.from.gone valid.own_names ∙ ap (numbered 1) (sym (map-set (at_place m.shelf) (held_seen m at).places (number - 1) None) ∙ ap (shown m.shelf) (sym is))))
