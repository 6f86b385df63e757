-- What a new row leaves of the order of rows, of the table's top, and of the bytes that are counted.
use Rattle.std.proofs.Common.{◌≡◌, ℕ, ◌+◌, ℤ, int_lt, int_le, Bool, true, false, not, if◌then◌else◌, List, [], ◌∷◌, ◌++◌, length, Option, Some, None, refl, sym, ap, ap₂, ◌∙◌, arith}
use Rattle.std.specs.List.{list_all, sum_by, insert}
use Rattle.std.specs.Ordering.{int_eq}
use Rattle.std.proofs.lemmas.Bool.{and_parts, and_from, cond-false}
use Rattle.std.proofs.lemmas.Int.{ints}
use Rattle.row_model.specs.declared.row.Row.{Row}
use Rattle.std.proofs.lemmas.List.Sums.{sum_by-cons}
use Rattle.vec_base.specs.declared.refusal.Refusal.{Refusal}
use Rattle.vec_base.specs.declared.refusal.Refusal.TheVariants.{Duplicate, RowidsSpent}
use Rattle.vec_base.specs.declared.value.Value.{Value}
use Rattle.std.specs.Option.{option_or}
use Rattle.row_model.specs.declared.row.Table.{Table}
use Rattle.row_model.specs.declared.schema.Place.{Place}
use Rattle.row_model.specs.RefusalOrder.{first, when}
use Rattle.row_model.specs.Change.{assigned, given_rowid, larger, new_row, row_of, spent, taken_rowid}
use Rattle.row_model.specs.Rows.{has_rowid, with_row, is_rising}
use Rattle.plain_engine.specs.inner.OrderedTables.{IsOrdered}
use Rattle.row_model.specs.Valid.{is_top}
use Rattle.row_model.proofs.RowLaws.{is_rising-with_row}
use Rattle.vec_base.specs.declared.limits.TheConstants.{LAST_ROWID}

-- ---- a test that all rows pass

passes_step : (p : Row → Bool) (row x : Row) (xs more : List Row) (b : Bool) → p row ≡ true → list_all p (x ∷ xs) ≡ true → list_all p more ≡ true →
    list_all p (if b then row ∷ x ∷ xs else x ∷ more) ≡ true
passes_step p row x xs more true h all rest = and_from _ _ h all
passes_step p row x xs more false h all rest = and_from _ _ (and_parts _ _ all).0 rest

pub all_pass-with_row : (p : Row → Bool) (row : Row) (rows : List Row) → p row ≡ true → list_all p rows ≡ true → list_all p (with_row row rows) ≡ true
all_pass-with_row p row [] h all = and_from _ _ h refl
all_pass-with_row p row (x ∷ xs) h all =
    passes_step p row x xs (with_row row xs) (int_lt row.rowid x.rowid) h all (all_pass-with_row p row xs h (and_parts _ _ all).1)

-- ---- the number that no rowid is above

le_chain : (a b c : ℤ) → int_le a b ≡ true → int_le b c ≡ true → int_le a c ≡ true
le_chain a b c h k = grind (arith, ints)

pub is_top_higher : (top higher : ℤ) (rows : List Row) → int_le top higher ≡ true → is_top top rows ≡ true → is_top higher rows ≡ true
is_top_higher top higher [] l h = refl
is_top_higher top higher (x ∷ xs) l h =
    and_from _ _ (le_chain x.rowid top higher (and_parts _ _ h).0 l) (is_top_higher top higher xs l (and_parts _ _ h).1)

larger_first : (a b : ℤ) → int_le a (larger a b) ≡ true
larger_first a b = grind (arith, ints)

larger_second : (a b : ℤ) → int_le b (larger a b) ≡ true
larger_second a b = grind (arith, ints)

pub is_top-with_row : (top : ℤ) (row : Row) (rows : List Row) → is_top top rows ≡ true → is_top (larger top row.rowid) (with_row row rows) ≡ true
is_top-with_row top row rows topped =
    all_pass-with_row (λ x. int_le x.rowid (larger top row.rowid)) row rows (larger_second top row.rowid)
    (is_top_higher top (larger top row.rowid) rows (larger_first top row.rowid) topped)

-- ---- a row above all others

not_below : (a b : ℤ) → int_le a b ≡ true → int_lt b a ≡ false
not_below a b h = grind (arith, ints)

pub with_row-above : (row : Row) (rows : List Row) → is_top row.rowid rows ≡ true → with_row row rows ≡ rows ++ row ∷ []
with_row-above row [] topped = refl
with_row-above row (x ∷ xs) topped =
    cond-false (int_lt row.rowid x.rowid) _ _ (not_below x.rowid row.rowid (and_parts _ _ topped).0) ∙ ap (λ ys. x ∷ ys) (with_row-above row xs (and_parts _ _ topped).1)

not_equal_above : (top new rowid : ℤ) → int_le rowid top ≡ true → int_lt top new ≡ true → int_eq rowid new ≡ false
not_equal_above top new rowid h l = grind (arith, ints)

pub no_rowid_above : (top new : ℤ) (rows : List Row) → int_lt top new ≡ true → is_top top rows ≡ true → has_rowid new rows ≡ false
no_rowid_above top new [] l topped = refl
no_rowid_above top new (x ∷ xs) l topped =
    rw (not_equal_above top new x.rowid (and_parts _ _ topped).0 l) (no_rowid_above top new xs l (and_parts _ _ topped).1)

-- ---- the next rowid

next_above : (top : ℤ) → int_lt top LAST_ROWID ≡ true → int_lt top (assigned top None) ≡ true
next_above top h = rw h (grind (arith, ints))

when_none : (b : Bool) (r : Refusal) → when (not b) r ≡ [] → b ≡ true
when_none true r h = refl
when_none false r h = absurd cc

-- where rowids are not spent, the next one is above the top
pub next_is_above : (top : ℤ) → spent top None ≡ [] → int_lt top (assigned top None) ≡ true
next_is_above top h = next_above top (when_none (int_lt top LAST_ROWID) RowidsSpent h)

insert_last : (row : Row) (rows : List Row) → insert rows (length rows) row ≡ rows ++ row ∷ []
insert_last row [] = refl
insert_last row (x ∷ xs) = ap (λ ys. x ∷ ys) (insert_last row xs)

lt_le : (a b : ℤ) → int_lt a b ≡ true → int_le a b ≡ true
lt_le a b h = grind (arith, ints)

-- a row whose rowid is assigned goes in behind all others
pub assigned_last : (top : ℤ) (row : Row) (rows : List Row) → is_top top rows ≡ true → spent top None ≡ [] → row.rowid ≡ assigned top None →
    insert rows (length rows) row ≡ with_row row rows
assigned_last top row rows topped left same =
    let above : int_le top row.rowid ≡ true = lt_le top row.rowid (ap (int_lt top) same ∙ next_is_above top left) in
    insert_last row rows ∙ sym (with_row-above row rows (is_top_higher top row.rowid rows above topped))

-- ---- bytes

move_up : (a b c : ℕ) → a + (b + c) ≡ b + (a + c)
move_up a b c = omega arith

sum_step : (f : Row → ℕ) (row x : Row) (xs more : List Row) (b : Bool) → sum_by f more ≡ f row + sum_by f xs →
    sum_by f (if b then row ∷ x ∷ xs else x ∷ more) ≡ f row + sum_by f (x ∷ xs)
sum_step f row x xs more true rest = sum_by-cons f row (x ∷ xs)
sum_step f row x xs more false rest =
    sum_by-cons f x more ∙ ap (λ (n : ℕ). f x + n) rest ∙ move_up (f x) (f row) (sum_by f xs) ∙ ap (λ (n : ℕ). f row + n) (sym (sum_by-cons f x xs))

pub sum-with_row : (f : Row → ℕ) (row : Row) (rows : List Row) → sum_by f (with_row row rows) ≡ f row + sum_by f rows
sum-with_row f row [] = sum_by-cons f row []
sum-with_row f row (x ∷ xs) = sum_step f row x xs (with_row row xs) (int_lt row.rowid x.rowid) (sum-with_row f row xs)

-- ---- a new row

-- the row of the assigned rowid is the new one, where the number is passed on as it is
pub is_new_row : (table : Table) (places : List Place) (given : List Value) (rowid : Option ℤ) (number : ℤ) (row : Row) →
    rowid ≡ given_rowid places given → number ≡ assigned table.top rowid → row ≡ row_of table.schema.columns places number given → row ≡ new_row table places given
is_new_row table places given rowid number row e n r =
    r ∙ ap (λ (z : ℤ). row_of table.schema.columns places z given) (n ∙ ap (assigned table.top) e)

-- ---- the first of several refusals

pub first-append : (xs ys : List Refusal) → first (xs ++ ys) ≡ option_or (first xs) (first ys)
first-append [] ys = refl
first-append (x ∷ xs) ys = refl

pub first_of_four : (none a b c d : List Refusal) → none ≡ [] →
    option_or (option_or (option_or (first a) (first b)) (first c)) (first d) ≡ first (none ++ a ++ b ++ c ++ d)
first_of_four none a b c d e =
    sym (ap (λ (n : List Refusal). first (n ++ a ++ b ++ c ++ d)) e
    ∙ (first-append (a ++ b ++ c) d
    ∙ ap (λ z. option_or z (first d)) (first-append (a ++ b) c ∙ ap (λ z. option_or z (first c)) (first-append a b))))

second_none : (a b c d : Option Refusal) → option_or (option_or (option_or a b) c) d ≡ None → b ≡ None
second_none None None c d h = refl
second_none None (Some x) c d h = absurd cc
second_none (Some x) b c d h = absurd cc

none_empty : (xs : List Refusal) → first xs ≡ None → xs ≡ []
none_empty [] h = refl
none_empty (x ∷ xs) h = absurd cc

pub second_empty : (a c d : Option Refusal) (b : List Refusal) → option_or (option_or (option_or a (first b)) c) d ≡ None → b ≡ []
second_empty a c d b h = none_empty b (second_none a (first b) c d h)

-- ---- order after a row

not_held : (b : Bool) (r : Refusal) → when b r ≡ [] → b ≡ false
not_held true r h = absurd cc
not_held false r h = refl

-- a rowid that nothing refuses is that of no row
new_rowid : (top : ℤ) (rows : List Row) (rowid : Option ℤ) (n : ℤ) → is_top top rows ≡ true → taken_rowid rows rowid ≡ [] → spent top rowid ≡ [] →
    n ≡ assigned top rowid → has_rowid n rows ≡ false
new_rowid top rows None n topped free left same = no_rowid_above top n rows (ap (int_lt top) same ∙ next_is_above top left) topped
new_rowid top rows (Some given) n topped free left same = ap (λ (z : ℤ). has_rowid z rows) same ∙ not_held (has_rowid given rows) (Duplicate given) free

-- the table stays in order
pub ordered_with : (table : Table) (rows : List Row) (row : Row) (rowid : Option ℤ) (top : ℤ) → IsOrdered table → taken_rowid table.rows rowid ≡ [] → spent table.top rowid ≡ [] →
    row.rowid ≡ assigned table.top rowid → rows ≡ with_row row table.rows → top ≡ larger table.top row.rowid → IsOrdered (record table { rows = rows; top = top })
ordered_with table rows row rowid top ordered free left same r t = record {
  rising = ap is_rising r ∙ is_rising-with_row row table.rows ordered.rising (new_rowid table.top table.rows rowid row.rowid ordered.topped free left same);
  topped = ap₂ is_top t r ∙ is_top-with_row table.top row table.rows ordered.topped;
}
