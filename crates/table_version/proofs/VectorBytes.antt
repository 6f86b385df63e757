-- The bytes of all vectors of a table: those of a row, as many times as there are rows.
use Rattle.std.proofs.Common.{◌≡◌, ℕ, suc, ℤ, ◌+◌, ◌*◌, ◌^◌, ◌≤◌, ◌<◌, List, [], ◌∷◌, ◌∙◌, refl, ap, arith, length, Option, Some, None}
use Rattle.std.specs.Prelude.{unwrap_or}
use Rattle.std.specs.List.{cons_option, AllByRecursion}
use Rattle.std.proofs.lemmas.List.Sums.{sum_by-cons}
use Rattle.vec_base.specs.declared.limits.TheConstants.{MOST_DIMENSIONS}
use Rattle.row_model.specs.Change.{rows_vector_bytes}
use Rattle.row_model.specs.declared.schema.Column.{Column}
use Rattle.row_model.specs.declared.schema.Schema.{Schema}
use Rattle.row_store.specs.StoredRows.{StoredRow}
use Rattle.row_store.specs.Touches.{StoreState}
use Rattle.shadow_records.specs.PlacedTables.{plain, plain_rows}
use Rattle.table_version.specs.Kept.{vector_width, widths_of}
use Rattle.table_version.specs.inner.StoredBytes.{total_width}
use Rattle.table_version.specs.inner.StoredTables.{IsSound, placed_rows, table_from}
use Rattle.table_version.proofs.ByteLaws.{vector_bytes-fit}
use Rattle.table_version.proofs.KeptBytes.{rows_vector_bytes-fixed}
use Rattle.table_version.proofs.WeavingLaws.{IsWidth, few-widths, narrow-widths}

-- ---- one row

put_width : (width : Option ℕ) (widths : List ℕ) → total_width (cons_option width widths) ≡ unwrap_or width 0 + total_width widths
put_width None widths = omega arith
put_width (Some width) widths = sum_by-cons (λ (w : ℕ). w) width widths

pub width_step : (column : Column) (columns : List Column) → total_width (widths_of (column ∷ columns)) ≡ unwrap_or (vector_width column.kind) 0 + total_width (widths_of columns)
width_step column columns = put_width (vector_width column.kind) (widths_of columns)

narrow_total : (widths : List ℕ) → AllByRecursion IsWidth widths → total_width widths ≤ length widths * MOST_DIMENSIONS
narrow_total [] all = omega arith
narrow_total (width ∷ widths) all =
    let one = sum_by-cons (λ (w : ℕ). w) width widths in
    let here = all.0.1 in
    let rest = narrow_total widths all.1 in
    omega (arith, one, here, rest)

-- a row of a valid schema is small
pub row_fits : (name : List ℕ) (schema : Schema) (top : ℤ) (store : StoreState) (sides : ℕ) → IsSound name schema top store sides → total_width (widths_of schema.columns) < 2 ^ 64
row_fits name schema top store sides sound =
    let valid = sound.placed.valid.schema in
    let few = few-widths schema valid in
    let narrow = narrow_total (widths_of schema.columns) (narrow-widths schema valid) in
    omega (arith, few, narrow)

-- ---- all rows

length_plain : (columns : List Column) (rows : List StoredRow) → length (plain_rows (placed_rows columns rows)) ≡ length rows
length_plain columns [] = refl
length_plain columns (s ∷ ss) = ap suc (length_plain columns ss)

pub rows_counted : (name : List ℕ) (schema : Schema) (top : ℤ) (store : StoreState) (sides : ℕ) → IsSound name schema top store sides →
    rows_vector_bytes (plain_rows (placed_rows schema.columns store.rows)) ≡ length store.rows * total_width (widths_of schema.columns)
rows_counted name schema top store sides sound =
    rows_vector_bytes-fixed schema.columns (plain_rows (placed_rows schema.columns store.rows)) sound.placed.valid.values
    ∙ ap (λ n. n * total_width (widths_of schema.columns)) (length_plain schema.columns store.rows)

pub rows_fit : (name : List ℕ) (schema : Schema) (top : ℤ) (store : StoreState) (sides : ℕ) → IsSound name schema top store sides →
    length store.rows * total_width (widths_of schema.columns) < 2 ^ 64
rows_fit name schema top store sides sound =
    let fits = vector_bytes-fit (plain (table_from name schema top store.rows)) sound.placed.valid in
    let same = rows_counted name schema top store sides sound in
    omega (arith, fits, same)
