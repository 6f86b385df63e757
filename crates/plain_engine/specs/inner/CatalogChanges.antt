-- What a write makes of a catalog: its reply and the changed catalog, or its refusal.
use Rattle.std.specs.Prelude.{ℕ, ◌+◌, ◌++◌, nat_lt, List, length, Some, None, Ok, Err}
use Rattle.std.specs.declared.option.Option.{Option}
use Rattle.std.specs.declared.result.Result.{Result}
use Rattle.vec_base.specs.declared.refusal.Refusal.{Refusal}
use Rattle.vec_base.specs.declared.refusal.Refusal.TheVariants.{NoTable, OldSnapshot, TableExists}
use Rattle.row_model.specs.declared.request.Reply.{Reply}
use Rattle.row_model.specs.declared.request.Reply.TheVariants.{Done}
use Rattle.row_model.specs.declared.row.Catalog.{Catalog}
use Rattle.row_model.specs.declared.row.Named.{Named}
use Rattle.row_model.specs.declared.schema.Schema.{Schema}
use Rattle.row_model.specs.declared.state.Session.{Session}
use Rattle.row_model.specs.declared.state.State.{State}
use Rattle.row_model.specs.declared.statement.Delete.{Delete}
use Rattle.row_model.specs.declared.statement.Insert.{Insert}
use Rattle.row_model.specs.declared.statement.Update.{Update}
use Rattle.row_model.specs.Change.{other_tables, table_named, with_new_table}
use Rattle.row_model.specs.Check.{check_delete, check_insert, check_update}
use Rattle.row_model.specs.Limits.{over_tables}
use Rattle.row_model.specs.RefusalOrder.{first, when}
use Rattle.row_model.specs.Step.{busy_beside, if_none, inserted_catalog, kept_catalog, old_snapshot, updated_catalog, with_tables}

-- what stands in a session's way: another writer, and then an old snapshot
abbrev pub blocked : State → Session → Option Refusal
blocked state session = first (busy_beside state session ++ old_snapshot state session.phase)

-- the change, unless it is refused
abbrev pub barred : Option Refusal → Result (Reply × Catalog) Refusal → Result (Reply × Catalog) Refusal
barred None change = change
barred (Some refusal) change = Err refusal

abbrev pub created_beside : List ℕ → Schema → Catalog → Option Refusal → Option Named → Result (Reply × Catalog) Refusal
created_beside name schema catalog bar (Some named) = Err TableExists
created_beside name schema catalog bar None =
    barred bar (if_none (over_tables (length catalog.tables + 1)) (Done, with_tables (with_new_table name schema catalog.tables)))

abbrev pub create_in : List ℕ → Schema → Catalog → Option Refusal → Result (Reply × Catalog) Refusal
create_in name schema catalog bar = created_beside name schema catalog bar (table_named name catalog.tables)

abbrev pub dropped_from : List ℕ → Catalog → Option Refusal → Option Named → Result (Reply × Catalog) Refusal
dropped_from name catalog bar None = Err NoTable
dropped_from name catalog bar (Some named) = barred bar (Ok (Done, with_tables (other_tables name catalog.tables)))

abbrev pub drop_in : List ℕ → Catalog → Option Refusal → Result (Reply × Catalog) Refusal
drop_in name catalog bar = dropped_from name catalog bar (table_named name catalog.tables)

abbrev pub inserted_into : Insert → Catalog → Option Refusal → Option Named → Result (Reply × Catalog) Refusal
inserted_into insert catalog bar None = Err NoTable
inserted_into insert catalog bar (Some named) =
    barred (check_insert named.table.schema.columns insert) (barred bar (inserted_catalog insert catalog named.table))

abbrev pub insert_in : Insert → Catalog → Option Refusal → Result (Reply × Catalog) Refusal
insert_in insert catalog bar = inserted_into insert catalog bar (table_named insert.table catalog.tables)

abbrev pub updated_in : Update → Catalog → Option Refusal → Option Named → Result (Reply × Catalog) Refusal
updated_in update catalog bar None = Err NoTable
updated_in update catalog bar (Some named) =
    barred (check_update named.table.schema.columns update) (barred bar (updated_catalog update catalog named.table))

abbrev pub update_in : Update → Catalog → Option Refusal → Result (Reply × Catalog) Refusal
update_in update catalog bar = updated_in update catalog bar (table_named update.table catalog.tables)

abbrev pub deleted_from : Delete → Catalog → Option Refusal → Option Named → Result (Reply × Catalog) Refusal
deleted_from delete catalog bar None = Err NoTable
deleted_from delete catalog bar (Some named) =
    barred (check_delete named.table.schema.columns delete) (barred bar (Ok (kept_catalog delete catalog named.table)))

abbrev pub delete_in : Delete → Catalog → Option Refusal → Result (Reply × Catalog) Refusal
delete_in delete catalog bar = deleted_from delete catalog bar (table_named delete.table catalog.tables)

-- a snapshot of the number is older than so many commits
abbrev pub number_before : ℕ → ℕ → List Refusal
number_before number commits = when (nat_lt number commits) (OldSnapshot number commits)
