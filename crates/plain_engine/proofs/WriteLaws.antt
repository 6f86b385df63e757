-- A session's write is a change of the catalog that it sees.
use Rattle.std.proofs.Common.{◌≡◌, ℕ, List, [], ◌∷◌, ◌++◌, Some, None, Result, Ok, refl}
use Rattle.std.specs.declared.option.Option.{Option}
use Rattle.vec_base.specs.declared.refusal.Refusal.{Refusal}
use Rattle.row_model.specs.declared.request.Reply.{Reply}
use Rattle.row_model.specs.declared.row.Catalog.{Catalog}
use Rattle.row_model.specs.declared.row.Named.{Named}
use Rattle.row_model.specs.declared.schema.Schema.{Schema}
use Rattle.row_model.specs.declared.state.Session.{Session}
use Rattle.row_model.specs.declared.state.State.{State}
use Rattle.row_model.specs.declared.statement.Delete.{Delete}
use Rattle.row_model.specs.declared.statement.Insert.{Insert}
use Rattle.row_model.specs.declared.statement.Update.{Update}
use Rattle.row_model.specs.Check.{check_delete, check_insert, check_update}
use Rattle.row_model.specs.Machine.{seen, unless}
use Rattle.row_model.specs.RefusalOrder.{first}
use Rattle.row_model.specs.Step.{busy_beside, created, deletes, dropped, found, inserted, inserted_catalog, kept_catalog, old_snapshot, updated_catalog, updates, writes, wrote}
use Rattle.plain_engine.specs.inner.CatalogChanges.{barred, blocked, create_in, created_beside, delete_in, deleted_from, drop_in, dropped_from, insert_in, inserted_into, update_in, updated_in}

-- the first of these stands before the change
before-change : (refusals : List Refusal) (state : State) (session : Session) (change : Result (Reply × Catalog) Refusal) →
    unless refusals state (wrote state session change) ≡ wrote state session (barred (first refusals) change)
before-change [] state session change = refl
before-change (r ∷ rs) state session change = refl

pub writes-is : (state : State) (session : Session) (fault : Option Refusal) (change : Result (Reply × Catalog) Refusal) →
    writes state session fault change ≡ wrote state session (barred fault (barred (blocked state session) change))
writes-is state session (Some refusal) change = refl
writes-is state session None change = before-change (busy_beside state session ++ old_snapshot state session.phase) state session change

created-by : (name : List ℕ) (schema : Schema) (state : State) (session : Session) (table : Option Named) →
    created name schema state session table ≡ wrote state session (created_beside name schema (seen state session) (blocked state session) table)
created-by name schema state session (Some named) = refl
created-by name schema state session None = writes-is state session None _

pub created-is : (name : List ℕ) (schema : Schema) (state : State) (session : Session) →
    created name schema state session (found name state session) ≡ wrote state session (create_in name schema (seen state session) (blocked state session))
created-is name schema state session = created-by name schema state session (found name state session)

dropped-by : (name : List ℕ) (state : State) (session : Session) (table : Option Named) →
    dropped name state session table ≡ wrote state session (dropped_from name (seen state session) (blocked state session) table)
dropped-by name state session None = refl
dropped-by name state session (Some named) = writes-is state session None _

pub dropped-is : (name : List ℕ) (state : State) (session : Session) →
    dropped name state session (found name state session) ≡ wrote state session (drop_in name (seen state session) (blocked state session))
dropped-is name state session = dropped-by name state session (found name state session)

inserted-by : (insert : Insert) (state : State) (session : Session) (table : Option Named) →
    inserted insert state session table ≡ wrote state session (inserted_into insert (seen state session) (blocked state session) table)
inserted-by insert state session None = refl
inserted-by insert state session (Some named) =
    writes-is state session (check_insert named.table.schema.columns insert) (inserted_catalog insert (seen state session) named.table)

pub inserted-is : (insert : Insert) (state : State) (session : Session) →
    inserted insert state session (found insert.table state session) ≡ wrote state session (insert_in insert (seen state session) (blocked state session))
inserted-is insert state session = inserted-by insert state session (found insert.table state session)

updated-by : (update : Update) (state : State) (session : Session) (table : Option Named) →
    updates update state session table ≡ wrote state session (updated_in update (seen state session) (blocked state session) table)
updated-by update state session None = refl
updated-by update state session (Some named) =
    writes-is state session (check_update named.table.schema.columns update) (updated_catalog update (seen state session) named.table)

pub updated-is : (update : Update) (state : State) (session : Session) →
    updates update state session (found update.table state session) ≡ wrote state session (update_in update (seen state session) (blocked state session))
updated-is update state session = updated-by update state session (found update.table state session)

deleted-by : (delete : Delete) (state : State) (session : Session) (table : Option Named) →
    deletes delete state session table ≡ wrote state session (deleted_from delete (seen state session) (blocked state session) table)
deleted-by delete state session None = refl
deleted-by delete state session (Some named) =
    writes-is state session (check_delete named.table.schema.columns delete) (Ok (kept_catalog delete (seen state session) named.table))

pub deleted-is : (delete : Delete) (state : State) (session : Session) →
    deletes delete state session (found delete.table state session) ≡ wrote state session (delete_in delete (seen state session) (blocked state session))
deleted-is delete state session = deleted-by delete state session (found delete.table state session)
