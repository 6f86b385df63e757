-- A table with one row more or less is valid, and what is known of a rowid that is assigned.
use Rattle.std.proofs.Common.{◌≡◌, ℕ, ℤ, pos, ◌+ℤ◌, ◌+◌, ◌≤◌, Bool, true, false, cond, List, [], ◌∷◌, ◌∙◌, refl, ap, ap₂, subst, arith, length, inl, inr, Option, Some, None}
use Rattle.std.specs.Prelude.{◌||◌, not, filter, find, int_lt, int_le, nat_lt, sum_by, if◌then◌else◌, FitsSigned, ⊤}
use Rattle.std.specs.Int.{w64}
use Rattle.std.specs.List.{list_all, list_any, AllByRecursion}
use Rattle.std.specs.Ordering.{int_eq}
use Rattle.std.proofs.lemmas.Bool.{and_parts, and_from, cases_Bool, le-leb}
use Rattle.std.proofs.lemmas.Int.{ints}
use Rattle.std.proofs.lemmas.List.Sums.{sum_by-cons}
use Rattle.vec_base.specs.declared.limits.TheConstants.{LAST_ROWID, MOST_ROWS}
use Rattle.vec_base.specs.declared.refusal.Refusal.TheVariants.{Duplicate, RowidsSpent}
use Rattle.vec_base.specs.declared.value.Value.{Value}
use Rattle.row_model.specs.Change.{assigned, larger, same_id, spent, taken_rowid, with_new_row, with_rows}
use Rattle.row_model.specs.Rows.{has_rowid, with_row, is_rising}
use Rattle.row_model.specs.Schemas.{count_of, is_key}
use Rattle.row_model.specs.Valid.{are_valid_values, is_valid_row, have_own_ids, is_top, IsRepresentableRow, IsValidTable}
use Rattle.row_model.specs.declared.row.Row.{Row}
use Rattle.row_model.specs.declared.row.Table.{Table}
use Rattle.row_model.specs.declared.schema.Column.{Column}
use Rattle.row_model.proofs.BoolLaws.{not_false, not_from, not_true, or_first, or_none, or_second}
use Rattle.row_model.proofs.RowLaws.{is_rising-with_row}
use Rattle.row_model.proofs.SelectLaws.{when_empty}
use Rattle.row_model.proofs.ValidityRows.{same_id-sym, valid_filter}
use Rattle.row_model.proofs.ValidityValues.{each_with_row, larger_last}
use Rattle.table_version.proofs.ByteLaws.{without, sum-without}
use Rattle.table_version.proofs.WeavingLaws.{same_id-texts}
use Rattle.table_version.specs.Kept.{id_in, is_one_id}

-- ---- what all rows pass with one more

all_with_row : (such : Row → Bool) (row : Row) (rows : List Row) → such row ≡ true → list_all such rows ≡ true → list_all such (with_row row rows) ≡ true
all_with_row such row [] here all = and_from _ _ here refl
all_with_row such row (r ∷ rs) here all =
    elim (int_lt row.rowid r.rowid) as (λ b. list_all such (if b then row ∷ r ∷ rs else r ∷ with_row row rs) ≡ true)
    [ true ↦ and_from _ _ here all | false ↦ and_from _ _ (and_parts _ _ all).0 (all_with_row such row rs here (and_parts _ _ all).1) ]

none_with_row : (such : Row → Bool) (row : Row) (rows : List Row) → such row ≡ false → list_any such rows ≡ false → list_any such (with_row row rows) ≡ false
none_with_row such row [] here none = or_none _ _ here refl
none_with_row such row (r ∷ rs) here none =
    elim (int_lt row.rowid r.rowid) as (λ b. list_any such (if b then row ∷ r ∷ rs else r ∷ with_row row rs) ≡ false) [
      | true ↦ or_none _ _ here none
      | false ↦ or_none _ _ (or_first (such r) (list_any such rs) none) (none_with_row such row rs here (or_second (such r) (list_any such rs) none))
    ]

pub length-with_row : (row : Row) (rows : List Row) → length (with_row row rows) ≡ length rows + 1
length-with_row row [] = refl
length-with_row row (r ∷ rs) =
    elim (int_lt row.rowid r.rowid) as (λ b. length (if b then row ∷ r ∷ rs else r ∷ with_row row rs) ≡ length (r ∷ rs) + 1)
    [ true ↦ omega arith | false ↦ let rest = length-with_row row rs in omega (arith, rest) ]

-- no row passes a test where none is found
pub none-such : (such : Row → Bool) (rows : List Row) → find such rows ≡ None → list_any such rows ≡ false
none-such such [] none = refl
none-such such (r ∷ rs) none =
    elim (such r) as (λ b. cond b (Some r) (find such rs) ≡ None → (b || list_any such rs) ≡ false)
    [ true ↦ λ e. absurd cc | false ↦ λ e. none-such such rs e ] none

own_ids_with_row : (columns : List Column) (row : Row) (rows : List Row) → list_any (λ other. same_id columns row.values other.values) rows ≡ false → have_own_ids columns rows ≡ true →
    have_own_ids columns (with_row row rows) ≡ true
own_ids_with_row columns row [] alone own = refl
own_ids_with_row columns row (r ∷ rs) alone own =
    let same = λ (other : Row). same_id columns row.values other.values in
    let here = same_id-sym columns r.values row.values ∙ or_first (same r) (list_any same rs) alone in
    elim (int_lt row.rowid r.rowid) as (λ b. have_own_ids columns (if b then row ∷ r ∷ rs else r ∷ with_row row rs) ≡ true) [
      | true ↦ and_from _ _ (not_from _ alone) own
      | false ↦ and_from _ _ (not_from _ (none_with_row (λ later. same_id columns r.values later.values) row rs here (not_true _ (and_parts _ _ own).0)))
          (own_ids_with_row columns row rs (or_second (same r) (list_any same rs) alone) (and_parts _ _ own).1)
    ]

-- ---- the top

int_le_trans : (a b c : ℤ) → int_le a b ≡ true → int_le b c ≡ true → int_le a c ≡ true
int_le_trans a b c h k = grind (arith, ints)

larger_first : (a b : ℤ) → int_le a (larger a b) ≡ true
larger_first a b = grind (arith, ints)

larger_second : (a b : ℤ) → int_le b (larger a b) ≡ true
larger_second a b = grind (arith, ints)

top_rises : (top higher : ℤ) (rows : List Row) → int_le top higher ≡ true → is_top top rows ≡ true → is_top higher rows ≡ true
top_rises top higher [] up h = refl
top_rises top higher (r ∷ rs) up h = and_from _ _ (int_le_trans r.rowid top higher (and_parts _ _ h).0 up) (top_rises top higher rs up (and_parts _ _ h).1)

-- ---- one row more

-- A valid table takes a valid row whose rowid and text id are those of no row, where there is room for one.
pub valid-with_row : (table : Table) (row : Row) → IsValidTable table → is_valid_row table.schema.columns row ≡ true → IsRepresentableRow row →
    has_rowid row.rowid table.rows ≡ false → find (λ r. same_id table.schema.columns row.values r.values) table.rows ≡ None → length table.rows + 1 ≤ MOST_ROWS →
    IsValidTable (with_new_row table row)
valid-with_row table row valid fits held new alone few =
    let columns = table.schema.columns in
    let top = larger table.top row.rowid in
    let up = larger_first table.top row.rowid in
    let longer = length-with_row row table.rows in
    record {
      schema = valid.schema;
      values = all_with_row (is_valid_row columns) row table.rows fits valid.values;
      rising = is_rising-with_row row table.rows valid.rising new;
      own_ids = own_ids_with_row columns row table.rows (none-such (λ r. same_id columns row.values r.values) table.rows alone) valid.own_ids;
      from_zero = int_le_trans (pos 0) table.top top valid.from_zero up;
      topped = all_with_row (λ r. int_le r.rowid top) row table.rows (larger_second table.top row.rowid) (top_rises table.top top table.rows up valid.topped);
      few = le-leb (length (with_row row table.rows)) MOST_ROWS (omega (arith, few, longer));
      representable = each_with_row IsRepresentableRow row table.rows held valid.representable;
      last = larger_last table.top row.rowid valid.last held.rowid;
    }

-- ---- one row less

-- A valid table without the row of a rowid is valid.
pub valid-without : (table : Table) (rowid : ℤ) → IsValidTable table → IsValidTable (with_rows table (filter (λ row. not (int_eq row.rowid rowid)) table.rows))
valid-without table rowid valid = valid_filter table (λ row. not (int_eq row.rowid rowid)) valid

-- ---- the rowid that is assigned

next_above : (top : ℤ) → int_lt top LAST_ROWID ≡ true → int_lt top (assigned top None) ≡ true
next_above top h = rw h (above top)
  where
    above : (top : ℤ) → int_lt top (top +ℤ pos 1) ≡ true
    above top = grind (arith, ints)

-- where rowids are not spent the next one is above the top
pub assigned-above : (top : ℤ) → spent top None ≡ [] → int_lt top (assigned top None) ≡ true
assigned-above top left = next_above top (not_false (int_lt top LAST_ROWID) (when_empty (not (int_lt top LAST_ROWID)) RowidsSpent left))

not_equal_above : (top new rowid : ℤ) → int_le rowid top ≡ true → int_lt top new ≡ true → int_eq rowid new ≡ false
not_equal_above top new rowid h l = grind (arith, ints)

-- no row has a rowid above the top
pub has_rowid-above : (top new : ℤ) (rows : List Row) → int_lt top new ≡ true → is_top top rows ≡ true → has_rowid new rows ≡ false
has_rowid-above top new [] above topped = refl
has_rowid-above top new (r ∷ rs) above topped =
    or_none (int_eq r.rowid new) (has_rowid new rs) (not_equal_above top new r.rowid (and_parts _ _ topped).0 above) (has_rowid-above top new rs above (and_parts _ _ topped).1)

-- A rowid that nothing refuses, given or assigned, is that of no row.
pub assigned-fresh : (top : ℤ) (rows : List Row) (rowid : Option ℤ) → is_top top rows ≡ true → taken_rowid rows rowid ≡ [] → spent top rowid ≡ [] → has_rowid (assigned top rowid) rows ≡ false
assigned-fresh top rows None topped free left = has_rowid-above top (assigned top None) rows (assigned-above top left) topped
assigned-fresh top rows (Some rowid) topped free left = when_empty (has_rowid rowid rows) (Duplicate rowid) free

-- the number that is given, if there is one, has 64 bits
abbrev pub FitsIfGiven : Option ℤ → Type 0
FitsIfGiven None = ⊤
FitsIfGiven (Some rowid) = FitsSigned w64 rowid

pub top-fits : (table : Table) → IsValidTable table → FitsSigned w64 table.top
top-fits table valid = number_fits table.top valid.from_zero valid.last
  where
    number_fits : (n : ℤ) → int_le (pos 0) n ≡ true → int_le n LAST_ROWID ≡ true → FitsSigned w64 n
    number_fits n low high = grind (arith, ints)

-- A rowid of a valid table that is given or assigned has 64 bits.
pub assigned-fits : (table : Table) (rowid : Option ℤ) → IsValidTable table → FitsIfGiven rowid → FitsSigned w64 (assigned table.top rowid)
assigned-fits table (Some rowid) valid fits = fits
assigned-fits table None valid fits =
    elim (cases_Bool (int_lt table.top LAST_ROWID)) [
      | inl below ↦ rw below (next_fits table.top valid.from_zero below)
      | inr last ↦ rw last (top-fits table valid)
    ]
  where
    next_fits : (top : ℤ) → int_le (pos 0) top ≡ true → int_lt top LAST_ROWID ≡ true → FitsSigned w64 (top +ℤ pos 1)
    next_fits top low high = grind (arith, ints)

-- ---- rows that are found

-- no row is found where none has the rowid
pub found-none : (rowid : ℤ) (rows : List Row) → has_rowid rowid rows ≡ false → find (λ row. int_eq row.rowid rowid) rows ≡ None
found-none rowid [] none = refl
found-none rowid (r ∷ rs) none =
    by_test (int_eq r.rowid rowid) (or_first (int_eq r.rowid rowid) (has_rowid rowid rs) none) (found-none rowid rs (or_second (int_eq r.rowid rowid) (has_rowid rowid rs) none))
  where
    by_test : (b : Bool) → b ≡ false → find (λ (row : Row). int_eq row.rowid rowid) rs ≡ None → cond b (Some r) (find (λ (row : Row). int_eq row.rowid rowid) rs) ≡ None
    by_test true e rest = absurd cc
    by_test false e rest = rest

-- a row that is found is valid, and has the rowid
pub record IsFound (columns : List Column) (rowid : ℤ) (row : Row) : Type 0 where
  pub same : row.rowid ≡ rowid
  pub valid : is_valid_row columns row ≡ true
  pub representable : IsRepresentableRow row

same_rowid : (n rowid : ℤ) → int_eq n rowid ≡ true → n ≡ rowid
same_rowid n rowid h = grind (arith, ints)

found_among : (columns : List Column) (rowid : ℤ) (rows : List Row) (row : Row) → list_all (is_valid_row columns) rows ≡ true → AllByRecursion IsRepresentableRow rows →
    find (λ r. int_eq r.rowid rowid) rows ≡ Some row → IsFound columns rowid row
found_among columns rowid [] row valid held found = absurd cc
found_among columns rowid (r ∷ rs) row valid held found =
    let parts = and_parts (is_valid_row columns r) (list_all (is_valid_row columns) rs) valid in
    let this : int_eq r.rowid rowid ≡ true → IsFound columns rowid r = λ e. record { same = same_rowid r.rowid rowid e; valid = parts.0; representable = held.0 } in
    by_test (int_eq r.rowid rowid) this (found_among columns rowid rs row parts.1 held.1) found
  where
    row_or : Option Row → Row
    row_or None = r
    row_or (Some x) = x

    by_test : (b : Bool) → (b ≡ true → IsFound columns rowid r) → (find (λ (x : Row). int_eq x.rowid rowid) rs ≡ Some row → IsFound columns rowid row) →
        cond b (Some r) (find (λ (x : Row). int_eq x.rowid rowid) rs) ≡ Some row → IsFound columns rowid row
    by_test true here rest e = subst (λ (x : Row). IsFound columns rowid x) (ap row_or e) (here refl)
    by_test false here rest e = rest e

pub found-valid : (table : Table) (rowid : ℤ) (row : Row) → IsValidTable table → find (λ r. int_eq r.rowid rowid) table.rows ≡ Some row → IsFound table.schema.columns rowid row
found-valid table rowid row valid found = found_among table.schema.columns rowid table.rows row valid.values valid.representable found

-- the row of the rowid is one row
pub length-without : (rowid : ℤ) (rows : List Row) (row : Row) → is_rising rows ≡ true → find (λ r. int_eq r.rowid rowid) rows ≡ Some row → length (without rowid rows) + 1 ≡ length rows
length-without rowid rows row rising found =
    let one = sum-without one_each rowid rows row rising found in
    let less = counted (without rowid rows) in
    let all = counted rows in
    omega (arith, one, less, all)
  where
    one_each : Row → ℕ
    one_each r = 1

    counted : (rs : List Row) → sum_by one_each rs ≡ length rs
    counted [] = refl
    counted (r ∷ rs) = let step = sum_by-cons one_each r rs in let rest = counted rs in omega (arith, step, rest)

-- no row of the others has the rowid
pub has_rowid-without : (rowid : ℤ) (rows : List Row) → has_rowid rowid (without rowid rows) ≡ false
has_rowid-without rowid [] = refl
has_rowid-without rowid (r ∷ rs) =
    elim (int_eq r.rowid rowid) as (λ b. int_eq r.rowid rowid ≡ b → has_rowid rowid (cond (not b) (r ∷ without rowid rs) (without rowid rs)) ≡ false)
    [ true ↦ λ e. has_rowid-without rowid rs | false ↦ λ e. or_none (int_eq r.rowid rowid) (has_rowid rowid (without rowid rs)) e (has_rowid-without rowid rs) ] refl

-- ---- rows of a text id

-- the row of the same id is looked for by the texts alone
pub find-same_id : (columns : List Column) (rowid : ℤ) (values : List Value) (rows : List Row) → nat_lt 1 (count_of is_key columns) ≡ false → are_valid_values columns rowid values ≡ true →
    list_all (is_valid_row columns) rows ≡ true →
    find (λ r. same_id columns values r.values) rows ≡ find (λ r. is_one_id (id_in columns values) (id_in columns r.values)) rows
find-same_id columns rowid values [] few valid all = refl
find-same_id columns rowid values (r ∷ rs) few valid all =
    let parts = and_parts (is_valid_row columns r) (list_all (is_valid_row columns) rs) all in
    ap₂ (λ (b : Bool) (rest : Option Row). cond b (Some r) rest)
    (same_id-texts columns rowid r.rowid values r.values few valid parts.0) (find-same_id columns rowid values rs few valid parts.1)
