-- What rows hold stays representable: in new rows, in changed ones, and in those that are left.
use Rattle.std.proofs.Common.{◌≡◌, ℕ, zero, suc, ℤ, pos, ◌+ℤ◌, ◌-◌, true, false, List, [], ◌∷◌, arith, inl, inr, Option, Some, None}
use Rattle.std.specs.Prelude.{int_lt, int_le, slice_set, if◌then◌else◌, FitsSigned, ⊤}
use Rattle.std.specs.Int.{w64}
use Rattle.std.specs.List.{AllByRecursion}
use Rattle.std.proofs.lemmas.Bool.{cases_Bool}
use Rattle.std.proofs.lemmas.Int.{ints}
use Rattle.vec_base.specs.declared.limits.TheConstants.{LAST_ROWID}
use Rattle.vec_base.specs.declared.value.Value.{Value}
use Rattle.vec_base.specs.declared.value.Value.TheVariants.{Null, Int, Text, Blob, Int8, Bits}
use Rattle.vec_base.specs.Representable.{IsRepresentable}
use Rattle.row_model.specs.declared.row.Row.{Row}
use Rattle.row_model.specs.declared.row.Table.{Table}
use Rattle.row_model.specs.declared.schema.Column.{Column}
use Rattle.row_model.specs.declared.schema.Kind.{Kind}
use Rattle.row_model.specs.declared.schema.Kind.TheVariants.{IntKey, TextKey, Int8Vector, BitVector, IntPartition, TextPartition, IntMeta, TextMeta, BoolMeta, IntAux, TextAux, BlobAux}
use Rattle.row_model.specs.declared.schema.Place.{Place}
use Rattle.row_model.specs.declared.schema.Place.TheVariants.{Unknown, Rowid, Declared, Count, Distance}
use Rattle.row_model.specs.declared.statement.Assign.{Assign}
use Rattle.row_model.specs.declared.statement.Update.{Update}
use Rattle.row_model.specs.Change.{assigned, blank, given_rowid, keyed, keyed_value, larger, new_row, or_else, put_all, put_at, rowid_at, set_all, updated}
use Rattle.row_model.specs.ColumnNames.{place_of}
use Rattle.row_model.specs.RepresentableStatements.{AreRepresentable, IsRepresentableAssign}
use Rattle.row_model.specs.Rows.{with_row}
use Rattle.row_model.specs.Valid.{IsRepresentableRow}
use Rattle.row_model.specs.Values.{meets_all}

-- ---- values at their places

set_representable : (values : List Value) (at : ℕ) (value : Value) → IsRepresentable value → AreRepresentable values → AreRepresentable (slice_set values at value)
set_representable [] at value one all = tt
set_representable (v ∷ vs) zero value one all = (one, all.1)
set_representable (v ∷ vs) (suc at) value one all = (all.0, set_representable vs at value one all.1)

put_representable : (place : Place) (value : Value) (values : List Value) → IsRepresentable value → AreRepresentable values → AreRepresentable (put_at place value values)
put_representable (Declared number kind) value values one all = set_representable values (number - 1) value one all
put_representable Unknown value values one all = all
put_representable Rowid value values one all = all
put_representable Count value values one all = all
put_representable Distance value values one all = all

put_all_representable : (places : List Place) (given values : List Value) → AreRepresentable given → AreRepresentable values → AreRepresentable (put_all places given values)
put_all_representable [] given values more all = all
put_all_representable (place ∷ places) [] values more all = all
put_all_representable (place ∷ places) (value ∷ given) values more all =
    put_all_representable places given (put_at place value values) more.1 (put_representable place value values more.0 all)

blank_representable : (columns : List Column) → AreRepresentable (blank columns)
blank_representable [] = tt
blank_representable (column ∷ columns) = (tt, blank_representable columns)

-- ---- the values of a new row

keyed_one : (kind : Kind) (rowid : ℤ) (value : Value) → FitsSigned w64 rowid → IsRepresentable value → IsRepresentable (keyed_value kind rowid value)
keyed_one IntKey rowid value fits one = fits
keyed_one TextKey rowid value fits one = one
keyed_one (Int8Vector width metric) rowid value fits one = one
keyed_one (BitVector width) rowid value fits one = one
keyed_one IntPartition rowid value fits one = one
keyed_one TextPartition rowid value fits one = one
keyed_one IntMeta rowid value fits one = one
keyed_one TextMeta rowid value fits one = one
keyed_one BoolMeta rowid value fits one = one
keyed_one IntAux rowid value fits one = one
keyed_one TextAux rowid value fits one = one
keyed_one BlobAux rowid value fits one = one

keyed_representable : (columns : List Column) (rowid : ℤ) (values : List Value) → FitsSigned w64 rowid → AreRepresentable values → AreRepresentable (keyed columns rowid values)
keyed_representable [] rowid values fits all = all
keyed_representable (column ∷ columns) rowid [] fits all = tt
keyed_representable (column ∷ columns) rowid (value ∷ values) fits all =
    (keyed_one column.kind rowid value fits all.0, keyed_representable columns rowid values fits all.1)

-- ---- its rowid

abbrev FitsWhereGiven : Option ℤ → Type 0
FitsWhereGiven None = ⊤
FitsWhereGiven (Some rowid) = FitsSigned w64 rowid

key_fits : (number : ℕ) (value : Value) → IsRepresentable value → FitsWhereGiven (rowid_at (Declared number IntKey) value)
key_fits number Null one = tt
key_fits number (Int n) one = one
key_fits number (Text text) one = tt
key_fits number (Blob bytes) one = tt
key_fits number (Int8 vector) one = tt
key_fits number (Bits vector) one = tt

rowid_fits : (place : Place) (value : Value) → IsRepresentable value → FitsWhereGiven (rowid_at place value)
rowid_fits Rowid Null one = tt
rowid_fits Rowid (Int n) one = one
rowid_fits Rowid (Text text) one = tt
rowid_fits Rowid (Blob bytes) one = tt
rowid_fits Rowid (Int8 vector) one = tt
rowid_fits Rowid (Bits vector) one = tt
rowid_fits (Declared number IntKey) value one = key_fits number value one
rowid_fits (Declared number TextKey) value one = tt
rowid_fits (Declared number (Int8Vector width metric)) value one = tt
rowid_fits (Declared number (BitVector width)) value one = tt
rowid_fits (Declared number IntPartition) value one = tt
rowid_fits (Declared number TextPartition) value one = tt
rowid_fits (Declared number IntMeta) value one = tt
rowid_fits (Declared number TextMeta) value one = tt
rowid_fits (Declared number BoolMeta) value one = tt
rowid_fits (Declared number IntAux) value one = tt
rowid_fits (Declared number TextAux) value one = tt
rowid_fits (Declared number BlobAux) value one = tt
rowid_fits Unknown value one = tt
rowid_fits Count value one = tt
rowid_fits Distance value one = tt

either_fits : (first later : Option ℤ) → FitsWhereGiven first → FitsWhereGiven later → FitsWhereGiven (or_else first later)
either_fits None later one two = two
either_fits (Some rowid) later one two = one

given_fits : (places : List Place) (given : List Value) → AreRepresentable given → FitsWhereGiven (given_rowid places given)
given_fits [] given all = tt
given_fits (place ∷ places) [] all = tt
given_fits (place ∷ places) (value ∷ given) all =
    either_fits (rowid_at place value) (given_rowid places given) (rowid_fits place value all.0) (given_fits places given all.1)

number_fits : (n : ℤ) → int_le (pos 0) n ≡ true → int_le n LAST_ROWID ≡ true → FitsSigned w64 n
number_fits n low high = grind (arith, ints)

next_fits : (top : ℤ) → int_le (pos 0) top ≡ true → int_lt top LAST_ROWID ≡ true → FitsSigned w64 (top +ℤ pos 1)
next_fits top low high = grind (arith, ints)

assigned_fits : (top : ℤ) (rowid : Option ℤ) → int_le (pos 0) top ≡ true → int_le top LAST_ROWID ≡ true → FitsWhereGiven rowid → FitsSigned w64 (assigned top rowid)
assigned_fits top (Some rowid) low high fits = fits
assigned_fits top None low high fits =
    elim (cases_Bool (int_lt top LAST_ROWID)) [
      | inl below ↦ rw below (next_fits top low below)
      | inr last ↦ rw last (number_fits top low high)
    ]

-- a rowid is at most the last one
fits_last : (n : ℤ) → FitsSigned w64 n → int_le n LAST_ROWID ≡ true
fits_last n fits = grind (arith, ints)

pub larger_last : (top rowid : ℤ) → int_le top LAST_ROWID ≡ true → FitsSigned w64 rowid → int_le (larger top rowid) LAST_ROWID ≡ true
larger_last top rowid high fits =
    elim (int_lt top rowid) as (λ b. int_le (if b then rowid else top) LAST_ROWID ≡ true) [ true ↦ fits_last rowid fits | false ↦ high ]

-- ---- a new row

pub new_row_representable : (table : Table) (places : List Place) (given : List Value) → int_le (pos 0) table.top ≡ true → int_le table.top LAST_ROWID ≡ true → AreRepresentable given →
    IsRepresentableRow (new_row table places given)
new_row_representable table places given low high all =
    let rowid = assigned table.top (given_rowid places given) in
    let fits = assigned_fits table.top (given_rowid places given) low high (given_fits places given all) in
    record {
      rowid = fits;
      values = keyed_representable table.schema.columns rowid (put_all places given (blank table.schema.columns)) fits
          (put_all_representable places given (blank table.schema.columns) all (blank_representable table.schema.columns));
    }

pub each_with_row : (P : Row → Type 0) (row : Row) (rows : List Row) → P row → AllByRecursion P rows → AllByRecursion P (with_row row rows)
each_with_row P row [] one all = (one, tt)
each_with_row P row (x ∷ xs) one all =
    elim (int_lt row.rowid x.rowid) as (λ b. AllByRecursion P (if b then row ∷ x ∷ xs else x ∷ with_row row xs))
    [ true ↦ (one, all) | false ↦ (all.0, each_with_row P row xs one all.1) ]

-- ---- UPDATE

sets_representable : (columns : List Column) (sets : List Assign) (values : List Value) → AllByRecursion IsRepresentableAssign sets → AreRepresentable values → AreRepresentable (set_all columns sets values)
sets_representable columns [] values new all = all
sets_representable columns (set ∷ sets) values new all =
    sets_representable columns sets (put_at (place_of columns set.column) set.value values) new.1 (put_representable (place_of columns set.column) set.value values new.0 all)

pub updated_representable : (columns : List Column) (update : Update) (rows : List Row) → AllByRecursion IsRepresentableAssign update.sets → AllByRecursion IsRepresentableRow rows →
    AllByRecursion IsRepresentableRow (updated columns update rows)
updated_representable columns update [] new all = tt
updated_representable columns update (r ∷ rs) new all = (
  (elim (meets_all columns update.where_terms r) as (λ b. IsRepresentableRow (if b then record r { values = set_all columns update.sets r.values } else r))
      [ true ↦ record { rowid = all.0.rowid; values = sets_representable columns update.sets r.values new all.0.values } | false ↦ all.0 ]),
  updated_representable columns update rs new all.1,
)
