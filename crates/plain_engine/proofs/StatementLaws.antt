-- What a statement on a table that was found answers, by what refuses it.
use Rattle.std.proofs.Common.{◌≡◌, List, ◌++◌, length, Option, Some, None, Result, Ok, Err, refl, sym, ap, ◌∙◌}
use Rattle.vec_base.specs.declared.refusal.Refusal.{Refusal}
use Rattle.vec_base.specs.declared.value.Value.{Value}
use Rattle.row_model.specs.declared.request.Reply.{Reply}
use Rattle.row_model.specs.declared.request.Reply.TheVariants.{Planned, Refused, Rows}
use Rattle.row_model.specs.declared.row.Catalog.{Catalog}
use Rattle.row_model.specs.declared.row.Named.{Named}
use Rattle.row_model.specs.declared.row.Table.{Table}
use Rattle.row_model.specs.declared.state.State.{State}
use Rattle.row_model.specs.declared.statement.Delete.{Delete}
use Rattle.row_model.specs.declared.statement.Insert.{Insert}
use Rattle.row_model.specs.declared.statement.Select.{Select}
use Rattle.row_model.specs.declared.statement.Update.{Update}
use Rattle.row_model.specs.Answer.{answer, shape_of}
use Rattle.row_model.specs.Change.{table_named}
use Rattle.row_model.specs.Check.{check_delete, check_insert, check_select, check_update}
use Rattle.row_model.specs.Machine.{unless}
use Rattle.row_model.specs.RefusalOrder.{first, listed}
use Rattle.row_model.specs.Step.{explained, inserted_catalog, kept_catalog, selected, too_many, updated_catalog}
use Rattle.plain_engine.specs.inner.CatalogChanges.{barred, delete_in, insert_in, update_in}
use Rattle.plain_engine.specs.inner.CursorAnswers.{cursor_rows, or_refused}
use Rattle.plain_engine.specs.inner.TablePlaces.{IsTable}
use Rattle.plain_engine.proofs.RefusalLaws.{unless-none, unless-some}

-- ---- what is refused, and what is not

pub barred-by : (bar : Option Refusal) (refusal : Refusal) (change : Result (Reply × Catalog) Refusal) → bar ≡ Some refusal → barred bar change ≡ Err refusal
barred-by bar refusal change e = ap (λ (o : Option Refusal). barred o change) e

pub not-barred : (bar : Option Refusal) (change : Result (Reply × Catalog) Refusal) → bar ≡ None → barred bar change ≡ change
not-barred bar change e = ap (λ (o : Option Refusal). barred o change) e

pub made-by : (whole change : Result (Reply × Catalog) Refusal) (reply : Reply) (catalog new : Catalog) → whole ≡ change → change ≡ Ok (reply, catalog) → new ≡ catalog →
    Ok (reply, new) ≡ whole
made-by whole change reply catalog new free made same = sym (free ∙ made ∙ ap (λ (z : Catalog). Ok (reply, z)) (sym same))

pub refused-by : (fault : Option Refusal) (refusal : Refusal) (rows : Result (List (List Value)) Refusal) → fault ≡ Some refusal → or_refused fault rows ≡ Err refusal
refused-by fault refusal rows e = ap (λ (o : Option Refusal). or_refused o rows) e

pub not-refused : (fault : Option Refusal) (rows : Result (List (List Value)) Refusal) → fault ≡ None → or_refused fault rows ≡ rows
not-refused fault rows e = ap (λ (o : Option Refusal). or_refused o rows) e

-- ---- statements on the table of the name

pub insert-at : (insert : Insert) (catalog : Catalog) (bar : Option Refusal) (table : Table) → IsTable insert.table catalog.tables table →
    insert_in insert catalog bar ≡ barred (check_insert table.schema.columns insert) (barred bar (inserted_catalog insert catalog table))
insert-at insert catalog bar table found = rw (found.is, found.same) refl

pub update-at : (update : Update) (catalog : Catalog) (bar : Option Refusal) (table : Table) → IsTable update.table catalog.tables table →
    update_in update catalog bar ≡ barred (check_update table.schema.columns update) (barred bar (updated_catalog update catalog table))
update-at update catalog bar table found = rw (found.is, found.same) refl

pub delete-at : (delete : Delete) (catalog : Catalog) (bar : Option Refusal) (table : Table) → IsTable delete.table catalog.tables table →
    delete_in delete catalog bar ≡ barred (check_delete table.schema.columns delete) (barred bar (Ok (kept_catalog delete catalog table)))
delete-at delete catalog bar table found = rw (found.is, found.same) refl

pub cursor-at : (select : Select) (full : Option Refusal) (tables : List Named) (table : Table) → IsTable select.table tables table →
    cursor_rows select full (table_named select.table tables) ≡ or_refused (check_select table.schema.columns select) (or_refused full (Ok (answer table select)))
cursor-at select full tables table found = rw (found.is, found.same) refl

-- ---- SELECT and EXPLAIN

select-at : (state : State) (select : Select) (tables : List Named) (table : Table) → IsTable select.table tables table →
    selected select state (table_named select.table tables)
    ≡ unless (listed (check_select table.schema.columns select) ++ too_many select (length (answer table select))) state (Rows (answer table select), state)
select-at state select tables table found = rw (found.is, found.same) refl

pub select-faulted : (state : State) (select : Select) (tables : List Named) (table : Table) (refusal : Refusal) → IsTable select.table tables table →
    check_select table.schema.columns select ≡ Some refusal → selected select state (table_named select.table tables) ≡ (Refused refusal, state)
select-faulted state select tables table refusal found fault =
    select-at state select tables table found
    ∙ ap (λ (z : Option Refusal). unless (listed z ++ too_many select (length (answer table select))) state (Rows (answer table select), state)) fault

pub select-many : (state : State) (select : Select) (tables : List Named) (table : Table) (rows : List (List Value)) (refusal : Refusal) → IsTable select.table tables table →
    check_select table.schema.columns select ≡ None → rows ≡ answer table select → first (too_many select (length rows)) ≡ Some refusal →
    selected select state (table_named select.table tables) ≡ (Refused refusal, state)
select-many state select tables table rows refusal found fine is many =
    select-at state select tables table found
    ∙ ap (λ (z : Option Refusal). unless (listed z ++ too_many select (length (answer table select))) state (Rows (answer table select), state)) fine
    ∙ unless-some (too_many select (length (answer table select))) state (Rows (answer table select), state) refusal
    (ap (λ (z : List (List Value)). first (too_many select (length z))) (sym is) ∙ many)

pub select-done : (state : State) (select : Select) (tables : List Named) (table : Table) (rows : List (List Value)) → IsTable select.table tables table →
    check_select table.schema.columns select ≡ None → rows ≡ answer table select → first (too_many select (length rows)) ≡ None →
    selected select state (table_named select.table tables) ≡ (Rows rows, state)
select-done state select tables table rows found fine is few =
    select-at state select tables table found
    ∙ ap (λ (z : Option Refusal). unless (listed z ++ too_many select (length (answer table select))) state (Rows (answer table select), state)) fine
    ∙ unless-none (too_many select (length (answer table select))) state (Rows (answer table select), state)
    (ap (λ (z : List (List Value)). first (too_many select (length z))) (sym is) ∙ few)
    ∙ ap (λ (z : List (List Value)). (Rows z, state)) (sym is)

explain-at : (state : State) (select : Select) (tables : List Named) (table : Table) → IsTable select.table tables table →
    explained select state (table_named select.table tables)
    ≡ unless (listed (check_select table.schema.columns select)) state (Planned (shape_of table.schema.columns select), state)
explain-at state select tables table found = rw (found.is, found.same) refl

pub explain-faulted : (state : State) (select : Select) (tables : List Named) (table : Table) (refusal : Refusal) → IsTable select.table tables table →
    check_select table.schema.columns select ≡ Some refusal → explained select state (table_named select.table tables) ≡ (Refused refusal, state)
explain-faulted state select tables table refusal found fault =
    explain-at state select tables table found
    ∙ ap (λ (z : Option Refusal). unless (listed z) state (Planned (shape_of table.schema.columns select), state)) fault

pub explain-done : (state : State) (select : Select) (tables : List Named) (table : Table) → IsTable select.table tables table →
    check_select table.schema.columns select ≡ None → explained select state (table_named select.table tables) ≡ (Planned (shape_of table.schema.columns select), state)
explain-done state select tables table found fine =
    explain-at state select tables table found
    ∙ ap (λ (z : Option Refusal). unless (listed z) state (Planned (shape_of table.schema.columns select), state)) fine
