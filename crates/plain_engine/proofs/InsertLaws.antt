-- The catalog after an INSERT, from the table with all rows.
use Rattle.std.proofs.Common.{◌≡◌, pos, List, length, map, Result, Ok, Err, IfOk, IfErr, ap, ap₂, ◌∙◌, sym}
use Rattle.vec_base.specs.declared.memory.Memory.{Memory}
use Rattle.vec_base.specs.declared.refusal.Refusal.{Refusal}
use Rattle.plain_engine.specs.declared.grow.Grown.{Grown}
use Rattle.row_model.specs.declared.request.Reply.TheVariants.{Inserted}
use Rattle.row_model.specs.declared.row.Named.{Named}
use Rattle.row_model.specs.declared.row.Table.{Table}
use Rattle.row_model.specs.declared.schema.Place.{Place}
use Rattle.row_model.specs.declared.statement.Insert.{Insert}
use Rattle.row_model.specs.Change.{elsewhere, grown, last_rowid, with_table}
use Rattle.row_model.specs.ColumnNames.{place_of}
use Rattle.row_model.specs.Step.{grown_catalog, inserted_catalog, with_tables}

abbrev places_in : Table → Insert → List Place
places_in table insert = map (place_of table.schema.columns) insert.columns

pub inserted_refused : (insert : Insert) (tables : List Named) (table : Table) (places : List Place) (grew : Result (Result Grown Refusal) Memory) →
    places ≡ places_in table insert →
    IfOk grew (λ g. IfErr g (λ refusal. grown (elsewhere insert.table (with_tables tables)) places table insert.rows ≡ Err refusal)) →
    IfOk grew (λ g. IfErr g (λ refusal. inserted_catalog insert (with_tables tables) table ≡ Err refusal))
inserted_refused insert tables table places (Err memory) same h = tt
inserted_refused insert tables table places (Ok (Ok g)) same h = tt
inserted_refused insert tables table places (Ok (Err refusal)) same h =
    ap (grown_catalog insert (last_rowid (pos 0) (places_in table insert) table insert.rows) tables)
    (ap (λ z. grown (elsewhere insert.table (with_tables tables)) z table insert.rows) (sym same) ∙ h)

pub inserted_grown : (insert : Insert) (tables : List Named) (table : Table) (places : List Place) (grew : Result (Result Grown Refusal) Memory) →
    places ≡ places_in table insert →
    IfOk grew (λ g. IfOk g (λ all. grown (elsewhere insert.table (with_tables tables)) places table insert.rows ≡ Ok all.table)) →
    IfOk grew (λ g. IfOk g (λ all. all.last ≡ last_rowid (pos 0) places table insert.rows)) →
    IfOk grew (λ g. IfOk g (λ all. inserted_catalog insert (with_tables tables) table
    ≡ Ok (Inserted (length insert.rows) all.last, with_tables (with_table insert.table all.table tables))))
inserted_grown insert tables table places (Err memory) same h last = tt
inserted_grown insert tables table places (Ok (Err refusal)) same h last = tt
inserted_grown insert tables table places (Ok (Ok all)) same h last =
    ap₂ (λ z w. grown_catalog insert z tables w)
    (ap (λ z. last_rowid (pos 0) z table insert.rows) (sym same) ∙ sym last)
    (ap (λ z. grown (elsewhere insert.table (with_tables tables)) z table insert.rows) (sym same) ∙ h)
